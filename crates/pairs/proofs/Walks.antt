-- The items of a sheet in turn.
use Prim.Native.Nat.{ℕ, zero, suc, ◌+◌, ◌-◌, ◌≤◌, ◌<◌}
use mathlib.Core.Path.{◌≡◌, refl}
use borrow.Author.Tests.{eq-eqb, ne_eqb, le-leb, lt-leb}
use mathlib.Core.List.{List}
use lib.ListN.{length}
use native.Mathlib.Numerals.{add-one}
use native.Mathlib.Omega.{arith}
use Rattle.pairs.specs.Pairs.{accepted, refused, offset, size, earliest, pair_number, in_turn}

-- one turn of the walk, by the number of the item in turn; its end
module _ (number : ℕ → ℕ) (m i n : ℕ) where
  pub turn_refused : (k : ℕ) → i < n → number i ≡ k → (k ≡ 0 → ⊥) → refused k i ≡ in_turn number m i (n - i)
  unfolding in_turn
  turn_refused k h f g =
      let e : n - i ≡ suc (n - (i + 1)) = omega arith in
      rw (e, f, ne_eqb k 0 g)

  pub turn_next : i < n → number i ≡ 0 → in_turn number m i (n - i) ≡ in_turn number m (i + 1) (n - (i + 1))
  unfolding in_turn
  turn_next h g =
      let e : n - i ≡ suc (n - (i + 1)) = omega arith in
      rw (e, eq-eqb (number i) 0 g, add-one i)

  pub turn_end : n ≤ i → accepted m ≡ in_turn number m i (n - i)
  unfolding in_turn
  turn_end h =
      let e : n - i ≡ 0 = omega arith in
      rw e

-- a walk asks only for the numbers that it passes
pub same_walk :
    (f g : ℕ → ℕ) (m i k : ℕ) → ((j : ℕ) → i ≤ j → j < i + k → f j ≡ g j) → in_turn f m i k ≡ in_turn g m i k
unfolding in_turn
same_walk f g m i zero h = refl
same_walk f g m i (suc k) h =
    let next = same_walk f g m (suc i) k (λ j a b. h j (omega arith) (omega arith)) in
    rw (h i (omega arith) (omega arith), next)

-- a walk over items that break no rule is accepted
pub walked : (number : ℕ → ℕ) (m i k : ℕ) → ((j : ℕ) → i ≤ j → j < i + k → number j ≡ 0) → in_turn number m i k ≡ accepted m
unfolding in_turn
walked number m i zero h = refl
walked number m i (suc k) h = rw (h i (omega arith) (omega arith)) (walked number m (suc i) k (λ j a b. h j (omega arith) (omega arith)))

-- the number of a pair by its tests
module _ (s : List ℕ) (i : ℕ) where
  pub pair_early : offset s i < earliest s i → pair_number s i ≡ 2
  unfolding pair_number
  pair_early h = rw (lt-leb (earliest s i) (offset s i) h)

  pub pair_past : earliest s i ≤ offset s i → length s < offset s i + size s i → pair_number s i ≡ 2
  unfolding pair_number
  pair_past h g = rw (le-leb (earliest s i) (offset s i) h, lt-leb (offset s i + size s i) (length s) g)

  pub pair_sound : earliest s i ≤ offset s i → offset s i + size s i ≤ length s → pair_number s i ≡ 0
  unfolding pair_number
  pair_sound h g = rw (le-leb (earliest s i) (offset s i) h, le-leb (offset s i + size s i) (length s) g)
