-- What an accepted addition keeps, and the seven numbers that it alters.
use Prim.Native.Nat.{ℕ, ◌+◌, ◌≤◌, ◌<◌}
use mathlib.Core.Bool.{true, ◌&&◌}
use mathlib.Core.List.{List, [], ◌∷◌, ◌++◌, append_assoc}
use mathlib.Core.Path.{◌≡◌, refl, sym, ap, ◌∙◌}
use borrow.Author.Tests.{eqb-true, ltb-true}
use lib.Dec.{ltb, eqb}
use lib.ListN.{length, set, take, drop, length-set}
use lib.Seq.{sets, sets-eq, drop-drop}
use native.Mathlib.Omega.{arith}
use Rattle.figures.proofs.Laws.{both}
use Rattle.figures.proofs.Stores.{zero_held, store_kept}
use Rattle.figures.specs.Store.{set_count, set_start, set_from, set_at, earliest_day, set_sound, store_refusal}
use Rattle.added_sets.specs.Adding.{add_refusal, set_numbers, with_set}

-- what an accepted addition keeps
pub record Addable (store numbers : List ℕ) : Type 0 where
  pub six : length numbers ≡ 6
  pub accepted : store_refusal store ≡ 0
  pub room : set_count store < 32
  pub sound : set_sound (earliest_day (set_at store) (set_count store)) (set_from numbers 0) ≡ true

pub addable : (store numbers : List ℕ) → add_refusal store numbers ≡ 0 → Addable store numbers
unfolding add_refusal
addable store numbers h =
    let z = eqb (length numbers) 6 in
    let a = eqb (store_refusal store) 0 in
    let b = ltb (set_count store) 32 in
    let c = set_sound (earliest_day (set_at store) (set_count store)) (set_from numbers 0) in
    let o = both z (a && (b && c)) (zero_held (z && (a && (b && c))) h) in
    let p = both a (b && c) o.1 in
    let q = both b c p.1 in
    record {
      six = eqb-true (length numbers) 6 o.0;
      accepted = eqb-true (store_refusal store) 0 p.0;
      room = ltb-true (set_count store) 32 q.0;
      sound = q.1;
    }

-- so there is room for it behind the last set
pub room_behind :
    (store numbers : List ℕ) → eqb (add_refusal store numbers) 0 ≡ true → (set_count store < 32) × (length store ≡ 193) × (length numbers ≡ 6)
room_behind store numbers h =
    let a = addable store numbers (eqb-true (add_refusal store numbers) 0 h) in
    (a.room, (store_kept store a.accepted).all, a.six)

-- a set's six numbers are those that it was read from
same_numbers : (numbers : List ℕ) → length numbers ≡ 6 → set_numbers (set_from numbers 0) ≡ numbers
same_numbers [] h = absurd (omega arith)
same_numbers (a ∷ []) h = absurd (omega arith)
same_numbers (a ∷ b ∷ []) h = absurd (omega arith)
same_numbers (a ∷ b ∷ c ∷ []) h = absurd (omega arith)
same_numbers (a ∷ b ∷ c ∷ d ∷ []) h = absurd (omega arith)
same_numbers (a ∷ b ∷ c ∷ d ∷ e ∷ []) h = absurd (omega arith)
same_numbers (a ∷ b ∷ c ∷ d ∷ e ∷ f ∷ []) h = refl
same_numbers (a ∷ b ∷ c ∷ d ∷ e ∷ f ∷ g ∷ rest) h = absurd (omega arith)

-- numbers copied into a store
written : (store numbers : List ℕ) (start : ℕ) → start + length numbers ≤ length store
    → take start store ++ (numbers ++ drop (length numbers) (drop start store)) ≡ sets store start numbers
written store numbers start k =
    ap (λ l. take start store ++ (numbers ++ l)) (drop-drop (length numbers) start store)
    ∙ sym (append_assoc (take start store) numbers (drop (start + length numbers) store))
    ∙ sym (sets-eq numbers store start k)

-- the store with the count that has risen, and a set's numbers copied behind the last one
pub copied :
    (store numbers : List ℕ) (n : ℕ) → n ≡ 6 → length numbers ≡ 6 → set_start (set_count store) + 6 ≤ length store
    → take (set_start (set_count store)) (set store 0 (set_count store + 1))
    ++ (numbers ++ drop n (drop (set_start (set_count store)) (set store 0 (set_count store + 1))))
    ≡ with_set store (set_from numbers 0)
unfolding with_set
copied store numbers n six h k =
    let counted : List ℕ = set store 0 (set_count store + 1) in
    let start : ℕ = set_start (set_count store) in
    let e : n ≡ length numbers = six ∙ sym h in
    ap (λ (m : ℕ). take start counted ++ (numbers ++ drop m (drop start counted))) e
    ∙ written counted numbers start (simp length-set (omega arith))
    ∙ ap (sets counted start) (sym (same_numbers numbers h))
