-- The lowest index that passes a test, as the first of a list of indexes.
use Prim.Native.Nat.{ℕ, zero, suc, ◌+◌, ◌-◌, ◌<◌}
use mathlib.Core.Path.{◌≡◌, refl}
use mathlib.Core.Bool.{Bool, true, false, cond}
use Rattle.std.specs.Prelude.{Option, Some, MatchOption}
use Rattle.std.specs.List.{find, range_with_len}
use native.Mathlib.Numerals.{add-one}
use native.Mathlib.Omega.{arith}
use Rattle.order.specs.Order.{lowest, ready, next_roof}

-- what was found is the lowest index, and where nothing was found there is none
abbrev Finds : ℕ → Option ℕ → Type 0
Finds low r = MatchOption r (0 ≡ low) (λ x. (x ≡ low) × (0 < x))

module _ (test : ℕ → Bool) where
  one_of : (b : Bool) (i low : ℕ) (rest : Option ℕ) → 0 < i → Finds low rest → Finds (cond b i low) (cond b (Some i) rest)
  one_of true i low rest h p = (refl, h)
  one_of false i low rest h p = p

  finds : (i k : ℕ) → 0 < i → Finds (lowest test i k) (find test (range_with_len i k))
  unfolding lowest
  finds i zero h = refl
  finds i (suc k) h = one_of (test i) i (lowest test (suc i) k) (find test (range_with_len (i + 1) k)) h (rw (add-one i) (finds (suc i) k (omega arith)))

pub next_found :
    (up : ℕ → ℕ) (done : ℕ → Bool) (n : ℕ) (r : Option ℕ) → r ≡ find (ready up done) (range_with_len 1 (n - 1))
    → MatchOption r (0 ≡ next_roof up n done) (λ x. (x ≡ next_roof up n done) × (0 < x))
unfolding next_roof
next_found up done n r e = rw e (finds (ready up done) 1 (n - 1) (omega arith))
