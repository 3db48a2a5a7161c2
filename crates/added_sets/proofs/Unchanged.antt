-- Adding a set: the store stays accepted, jobs dated before the set use what they used, and later ones use the set.
use Prim.Native.Nat.{ℕ, ◌+◌, ◌≤◌, ◌<◌}
use mathlib.Core.Bool.{Bool, true, false, cond}
use mathlib.Core.List.{List}
use mathlib.Core.Path.{◌≡◌, refl, ap, sym, ◌∙◌}
use borrow.Author.Tests.{eqb-true}
use lib.Dec.{eqb}
use Rattle.std.specs.Prelude.{Option, Some, None}
use lib.ListN.{length, get_or, set, length-set}
use lib.Seq.{length-sets, get_or-set_same, get_or-set_other}
use native.Mathlib.Omega.{arith}
use Rattle.figures.proofs.Stores.{store_kept, store_accepted}
use Rattle.figures.specs.Store.{set_count, set_start, set_from, set_at, store_refusal, last_begun, set_in_use, SameFor}
use Rattle.figures.specs.declared.national.NationalSet.{NationalSet}
use Rattle.added_sets.specs.Adding.{add_refusal, set_numbers, with_set, store_after, JobBefore}
use Rattle.added_sets.proofs.Judged.{addable}
use Rattle.added_sets.proofs.Runs.{one_more, begun_before, begun_since, number_before, number_behind, number_in}

module _ (store numbers : List ℕ) (h : add_refusal store numbers ≡ 0) where
  abbrev s : NationalSet
  s = set_from numbers 0

  room : set_start (set_count store) + 6 ≤ length store
  room = let a = addable store numbers h in omega (arith, a.room, (store_kept store a.accepted).all)

  pub added_length : length (with_set store s) ≡ length store
  unfolding with_set
  added_length = length-sets (set store 0 (set_count store + 1)) (set_start (set_count store)) (set_numbers s) ∙ length-set store 0 (set_count store + 1)

  -- "the count rises by one"
  pub added_count_lem : set_count (with_set store s) ≡ set_count store + 1
  unfolding with_set
  added_count_lem =
      number_before (set_numbers s) (set store 0 (set_count store + 1)) (set_start (set_count store)) 0 (omega arith)
      ∙ get_or-set_same store 0 (set_count store + 1) 0 (omega (arith, room))

  -- "nothing else in the store alters"
  pub others_before : (k : ℕ) → 0 < k → k < set_start (set_count store) → get_or (with_set store s) k 0 ≡ get_or store k 0
  unfolding with_set
  others_before k p q =
      number_before (set_numbers s) (set store 0 (set_count store + 1)) (set_start (set_count store)) k q
      ∙ get_or-set_other store 0 k (set_count store + 1) 0 (λ e. omega arith)

  pub others_behind : (k : ℕ) → set_start (set_count store) + 6 ≤ k → get_or (with_set store s) k 0 ≡ get_or store k 0
  unfolding with_set
  others_behind k p =
      number_behind (set_numbers s) (set store 0 (set_count store + 1)) (set_start (set_count store)) k p
      ∙ get_or-set_other store 0 k (set_count store + 1) 0 (λ e. omega arith)

  pub old_sets : (i : ℕ) → i < set_count store → set_at (with_set store s) i ≡ set_at store i
  old_sets i p =
      rw (
        others_before (set_start i) (omega arith) (omega arith),
        others_before (set_start i + 1) (omega arith) (omega arith),
        others_before (set_start i + 2) (omega arith) (omega arith),
        others_before (set_start i + 3) (omega arith) (omega arith),
        others_before (set_start i + 4) (omega arith) (omega arith),
        others_before (set_start i + 5) (omega arith) (omega arith),
      )

  added_number : (j : ℕ) → j < 6 → get_or (with_set store s) (set_start (set_count store) + j) 0 ≡ get_or (set_numbers s) j 0
  unfolding with_set
  added_number j p = number_in (set_numbers s) (set store 0 (set_count store + 1)) (set_start (set_count store)) j (simp length-set room) p

  -- "An added set goes behind the last"
  pub added_set : set_at (with_set store s) (set_count store) ≡ s
  added_set =
      let e : set_start (set_count store) ≡ set_start (set_count store) + 0 = omega arith in
      let d : get_or (with_set store s) (set_start (set_count store)) 0 ≡ s.day =
      ap (λ (k : ℕ). get_or (with_set store s) k 0) e ∙ added_number 0 (omega arith) in
      rw (d, added_number 1 (omega arith), added_number 2 (omega arith), added_number 3 (omega arith), added_number 4 (omega arith), added_number 5 (omega arith))

  -- the store stays accepted
  pub still_accepted : store_refusal (with_set store s) ≡ 0
  still_accepted =
      let a = addable store numbers h in
      let k = store_kept store a.accepted in
      store_accepted (with_set store s) (record {
        all = added_length ∙ k.all;
        few = rw added_count_lem (omega (arith, a.room));
        sound = rw added_count_lem (one_more (set_at (with_set store s)) (set_at store) (set_count store) s old_sets added_set k.sound a.sound);
      })

  same_before : (day : ℕ) → day < s.day → set_in_use (with_set store s) (Some day) ≡ set_in_use store (Some day)
  unfolding set_in_use
  same_before day p =
      ap (last_begun (set_at (with_set store s)) day) added_count_lem
      ∙ begun_before (set_at (with_set store s)) (set_at store) (set_count store) s old_sets added_set day p

  -- from its first day on the added set is in use
  pub in_use_since : (day : ℕ) → s.day ≤ day → set_in_use (with_set store s) (Some day) ≡ Some s.figures
  unfolding set_in_use
  in_use_since day p =
      ap (last_begun (set_at (with_set store s)) day) added_count_lem
      ∙ begun_since (set_at (with_set store s)) (set_at store) (set_count store) s old_sets added_set day p

  alike_before : (day : Option ℕ) → JobBefore day s.day → SameFor (with_set store s) store day
  unfolding set_in_use
  alike_before None p = record { refusal = still_accepted ∙ sym (addable store numbers h).accepted; set = refl }
  alike_before (Some day) p = record { refusal = still_accepted ∙ sym (addable store numbers h).accepted; set = same_before day p }

-- "no job dated before the set changes": whatever the store and the numbers are, added or refused
unchanged_by :
    (b : Bool) (store numbers : List ℕ) (day : Option ℕ) → eqb (add_refusal store numbers) 0 ≡ b → JobBefore day (set_from numbers 0).day
    → SameFor (cond b (with_set store (set_from numbers 0)) store) store day
unchanged_by true store numbers day e p = alike_before store numbers (eqb-true (add_refusal store numbers) 0 e) day p
unchanged_by false store numbers day e p = record { refusal = refl; set = refl }

pub unchanged_before : (store numbers : List ℕ) (day : Option ℕ) → JobBefore day (set_from numbers 0).day → SameFor (store_after store numbers) store day
unfolding store_after
unchanged_before store numbers day p = unchanged_by (eqb (add_refusal store numbers) 0) store numbers day refl p
