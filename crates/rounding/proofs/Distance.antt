-- Whole numbers near a fraction: the larger of two lies near the larger fraction, and two that are near one fraction lie near each other.
use Prim.Native.Nat.{ℕ, ◌+◌, ◌*◌, ◌≤◌, ◌<◌, max}
use native.Mathlib.Decide.{dec_le}
use native.Mathlib.Nat.{mul-le-mul_left, mul-le-mul_right, mul-lt-mul_of_pos_right, lt_of_mul-lt-mul_right, le-max_right, max_comm, max-eq_left, max-eq_right}
use native.Mathlib.Omega.{arith}
use Rattle.rounding.specs.Fraction.{Fraction, AtMost, UnderParts, Below, Near, over}
use Rattle.rounding.specs.Limit.{larger}
use Rattle.rounding.proofs.Limited.{larger_is}

pub near_nothing : (g k : ℕ) → 0 < k → Near g k 0 (over 0 1)
unfolding AtMost UnderParts
near_nothing g k h = record { positive = omega arith; low = omega arith; high = omega arith }

-- What is less than k parts above the lower of two fractions is so above the higher one.
module _ (g k : ℕ) where
  near_higher : (r s : ℕ) (e f : Fraction) → Near g k r e → Near g k s f → Below e f → Near g k (max r s) f
  unfolding AtMost UnderParts Below
  near_higher r s e f p q c =
      let t : g * r * f.den * e.den < (g * f.num + k * f.den) * e.den =
      omega (arith, mul-lt-mul_of_pos_right p.high q.positive, mul-le-mul_left g c) in
      let u : g * r * f.den < g * f.num + k * f.den = lt_of_mul-lt-mul_right e.den t in
      record {
        positive = q.positive;
        low = omega (arith, q.low, mul-le-mul_right f.den (le-max_right r s));
        high = elim (dec_le r s) [
          | yes a ↦ rw (max-eq_right a) q.high
          | no a ↦ let b : s ≤ r = omega arith in rw (max-eq_left b) u
        ];
      }

  pub near_larger : (r s : ℕ) (e f : Fraction) → Near g k r e → Near g k s f → Near g k (max r s) (larger e f)
  near_larger r s e f p q =
      larger_is (λ z. Near g k (max r s) z) e f
      (λ c. near_higher r s e f p q c)
      (λ c. rw (max_comm r s) (near_higher s r f e q p c))

-- whatever their parts
pub near_near : (g k h l r s : ℕ) (f : Fraction) → Near g k r f → Near h l s f → g * r < g * s + k
unfolding AtMost UnderParts
near_near g k h l r s f p q =
    let t : g * r * f.den < (g * s + k) * f.den = omega (arith, p.high, mul-le-mul_left g q.low) in
    lt_of_mul-lt-mul_right f.den t
