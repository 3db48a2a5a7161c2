-- What accepted pairs keep: the items lie within the sheet; and the items that a walk passes and names.
use Prim.Native.Nat.{ℕ, zero, suc, ◌+◌, ◌≤◌, ◌<◌}
use mathlib.Core.Path.{◌≡◌, refl, subst}
use mathlib.Core.Bool.{Bool, true, false, cond, ◌&&◌}
use mathlib.Core.List.{List}
use mathlib.Core.Logic.{◌⊎◌, inl, inr, ⊎_elim}
use borrow.Author.Tests.{leb-true, eqb-true}
use lib.Dec.{leb, eqb}
use lib.ListN.{length}
use native.Mathlib.Nat.{eq-or-lt_of_le}
use native.Mathlib.Omega.{arith}
use Rattle.figures.proofs.Laws.{both}
use Rattle.ceilings.proofs.Limits.{Fitting, fitting}
use Rattle.ceilings.specs.Ceilings.{fits}
use Rattle.ceilings.specs.declared.Ceiling.{Ceiling}
use Rattle.pairs.specs.Pairs.{Answer, accepted, refused, count, offset, size, earliest, pair_number, in_turn, pairs_verdict, and_then, PartsIn}

-- an answer that is accepted is no refusal
pub not_refused : {A : Type 0} (b : Bool) (v : Answer A) (k i : ℕ) (a : A) → cond b v (refused k i) ≡ accepted a → (b ≡ true) × (v ≡ accepted a)
not_refused true v k i a e = (refl, e)
not_refused false v k i a e = let z : ◌≡◌ {A = ℕ} 0 1 = cc in absurd (omega arith)

-- where a walk is accepted, every item that it passed has the number 0
pub passed : (number : ℕ → ℕ) (m i k n : ℕ) → in_turn number m i k ≡ accepted n → (n ≡ m) × ((j : ℕ) → i ≤ j → j < i + k → number j ≡ 0)
unfolding in_turn
passed number m i zero n e = (cc, λ j a b. absurd (omega arith))
passed number m i (suc k) n e =
    let p = not_refused (eqb (number i) 0) (in_turn number m (suc i) k) (number i) i n e in
    let r = passed number m (suc i) k n p.1 in
    let h : number i ≡ 0 = eqb-true (number i) 0 p.0 in
    (r.0, λ j a b. ⊎_elim (λ (w : i ≡ j). subst (λ (x : ℕ). number x ≡ 0) w h) (λ (w : i < j). r.1 j w (omega arith)) (eq-or-lt_of_le a))

-- two rules in turn: both are kept, or one is broken
pub both_accepted : {A B : Type 0} (v : Answer A) (w : Answer B) (b : B) → and_then v w ≡ accepted b → (a : A) × (v ≡ accepted a) × (w ≡ accepted b)
both_accepted (accepted a) w b e = (a, refl, e)
both_accepted (refused k i) w b e = let z : ◌≡◌ {A = ℕ} 0 1 = cc in absurd (omega arith)

pub one_refused : {A : Type 0} (v w : Answer A) (k i : ℕ) → and_then v w ≡ refused k i → (v ≡ refused k i) ⊎ (w ≡ refused k i)
one_refused (accepted a) w k i e = inr e
one_refused (refused l j) w k i e = inl e

number_held : (b : Bool) (k : ℕ) → 0 < k → cond b 0 k ≡ 0 → b ≡ true
number_held true k h e = refl
number_held false k h e = absurd (omega arith)

pub record PairKept (s : List ℕ) (i : ℕ) : Type 0 where
  pub after : earliest s i ≤ offset s i
  pub within : offset s i + size s i ≤ length s

pair_kept : (s : List ℕ) (i : ℕ) → pair_number s i ≡ 0 → PairKept s i
unfolding pair_number
pair_kept s i e =
    let p = both (leb (earliest s i) (offset s i)) (leb (offset s i + size s i) (length s))
    (number_held (leb (earliest s i) (offset s i) && leb (offset s i + size s i) (length s)) 2 (omega arith) e) in
    record { after = leb-true (earliest s i) (offset s i) p.0; within = leb-true (offset s i + size s i) (length s) p.1 }

-- what accepted pairs keep
pub record PairsKept (ceiling : Ceiling) (s : List ℕ) (n : ℕ) : Type 0 where
  pub counted : n ≡ count s
  pub fit : Fitting ceiling (length s) n
  pub each : (i : ℕ) → i < n → PairKept s i

pub pairs_kept : (ceiling : Ceiling) (s : List ℕ) (n : ℕ) → pairs_verdict ceiling s ≡ accepted n → PairsKept ceiling s n
unfolding pairs_verdict
pairs_kept ceiling s n e =
    let p = not_refused (fits ceiling (length s) (count s)) (in_turn (pair_number s) (count s) 0 (count s)) 1 0 n e in
    let w = passed (pair_number s) (count s) 0 (count s) n p.1 in
    let f = fitting ceiling (length s) (count s) p.0 in
    record { counted = w.0; fit = rw w.0 f; each = λ i h. pair_kept s i (w.1 i (omega arith) (omega arith)) }

-- so each item lies in the sheet, its pair too
pub parts_in : {ceiling : Ceiling} {s : List ℕ} {n : ℕ} → PairsKept ceiling s n → PartsIn s n
parts_in k i h = record { pair = omega (arith, k.fit.pairs); within = (k.each i h).within }

-- the item that a refusal names is one of those walked over
named_by :
    (b : Bool) (v : Answer ℕ) (y i k x j : ℕ) → (v ≡ refused x j → j < suc i + k) → cond b v (refused y i) ≡ refused x j → j < i + suc k
named_by true v y i k x j f e = omega (arith, f e)
named_by false v y i k x j f e = let z : i ≡ j = cc in omega arith

pub named_in : (number : ℕ → ℕ) (m i k x j : ℕ) → in_turn number m i k ≡ refused x j → j < i + k
unfolding in_turn
named_in number m i zero x j e = let z : ◌≡◌ {A = ℕ} 0 1 = cc in absurd (omega arith)
named_in number m i (suc k) x j e = named_by (eqb (number i) 0) (in_turn number m (suc i) k) (number i) i k x j (named_in number m (suc i) k x j) e

module _ (ceiling : Ceiling) (s : List ℕ) (x j : ℕ) where
  pair_named_by :
      (b : Bool) → fits ceiling (length s) (count s) ≡ b → cond b (in_turn (pair_number s) (count s) 0 (count s)) (refused 1 0) ≡ refused x j
      → j ≤ ceiling.items
  pair_named_by true f e = omega (arith, named_in (pair_number s) (count s) 0 (count s) x j e, (fitting ceiling (length s) (count s) f).items)
  pair_named_by false f e = let z : 0 ≡ j = cc in omega arith

  -- the item that refused pairs name
  pub pair_named : pairs_verdict ceiling s ≡ refused x j → j ≤ ceiling.items
  unfolding pairs_verdict
  pair_named e = pair_named_by (fits ceiling (length s) (count s)) refl e
