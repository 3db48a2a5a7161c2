-- Limits: limited numbers and the smaller of two fractions rise with what is limited; which of two fractions is the smaller, which the larger.
use mathlib.Core.Path.{◌≡◌, refl, ap}
use mathlib.Core.Bool.{Bool, true, false, cond}
use Prim.Native.Nat.{ℕ, ◌*◌, ◌≤◌, ◌<◌, min, max}
use native.Mathlib.Nat.{le_of_lt, mul-le-mul_right, le_of_mul-le-mul_right, mul-pos, min-eq_left, min-eq_right, max-eq_left, max-eq_right}
use native.Mathlib.Omega.{arith}
use borrow.Author.Tests.{leb-true, leb-false}
use lib.Dec.{leb}
use Rattle.rounding.specs.Fraction.{Fraction, over, Below, Same}
use Rattle.rounding.specs.Limit.{smaller, larger, held_to}

pub min_mono : {a b c d : ℕ} → a ≤ c → b ≤ d → min a b ≤ min c d
min_mono p q = omega arith

pub max_mono : {a b c d : ℕ} → a ≤ c → b ≤ d → max a b ≤ max c d
max_mono p q = omega arith

pub held_low : (low high x : ℕ) → low ≤ held_to low high x
unfolding held_to
held_low low high x = omega arith

pub below_refl : (e : Fraction) → Below e e
unfolding Below
below_refl e = omega arith

-- Both are multiplied by the other's denominator, and the middle one is cancelled.
pub below_trans : (e f g : Fraction) → 0 < f.den → Below e f → Below f g → Below e g
unfolding Below
below_trans e f g h p q =
    let s : e.num * g.den * f.den ≤ g.num * e.den * f.den =
    omega (arith, mul-le-mul_right g.den p, mul-le-mul_right e.den q) in
    le_of_mul-le-mul_right s h

-- The smaller and the larger are each one of the two, so what holds of whichever it is holds of it.
pub chosen : (P : Fraction → Type 0) (e f : Fraction) (b : Bool) → (b ≡ true → P e) → (b ≡ false → P f) → P (cond b e f)
chosen P e f true p q = p refl
chosen P e f false p q = q refl

-- a half and two thirds, either way round
pub half_and_two_thirds :
    (smaller (over 1 2) (over 2 3) ≡ over 1 2) × (smaller (over 2 3) (over 1 2) ≡ over 1 2) × (larger (over 1 2) (over 2 3) ≡ over 2 3)
    × (larger (over 2 3) (over 1 2) ≡ over 2 3)
unfolding smaller larger
half_and_two_thirds = (refl, refl, refl, refl)

module _ (P : Fraction → Type 0) (e f : Fraction) where
  pub smaller_is : (Below e f → P e) → (Below f e → P f) → P (smaller e f)
  unfolding smaller Below
  smaller_is p q = chosen P e f (leb (e.num * f.den) (f.num * e.den)) (λ b. p (leb-true _ _ b)) (λ b. q (le_of_lt (leb-false _ _ b)))

  pub larger_is : (Below e f → P f) → (Below f e → P e) → P (larger e f)
  unfolding larger Below
  larger_is p q = chosen P f e (leb (e.num * f.den) (f.num * e.den)) (λ b. p (leb-true _ _ b)) (λ b. q (le_of_lt (leb-false _ _ b)))

module _ (e f : Fraction) where
  smaller_left : Below (smaller e f) e
  smaller_left = smaller_is (λ s. Below s e) e f (λ p. below_refl e) (λ p. p)

  smaller_right : Below (smaller e f) f
  smaller_right = smaller_is (λ s. Below s f) e f (λ p. p) (λ p. below_refl f)

  pub larger_left : Below e (larger e f)
  larger_left = larger_is (λ s. Below e s) e f (λ p. p) (λ p. below_refl e)

  pub larger_right : Below f (larger e f)
  larger_right = larger_is (λ s. Below f s) e f (λ p. below_refl f) (λ p. p)

  pub smaller_positive : 0 < e.den → 0 < f.den → 0 < (smaller e f).den
  smaller_positive he hf = smaller_is (λ s. 0 < s.den) e f (λ p. he) (λ p. hf)

  pub larger_positive : 0 < e.den → 0 < f.den → 0 < (larger e f).den
  larger_positive he hf = larger_is (λ s. 0 < s.den) e f (λ p. hf) (λ p. he)

-- Whichever of the upper pair is the smaller, the smaller of the lower pair is below it.
module _ (e f e' f' : Fraction) (p : Below e e') (q : Below f f') where
  pub smaller_mono : 0 < e.den → 0 < f.den → Below (smaller e f) (smaller e' f')
  smaller_mono he hf =
      smaller_is (λ s. Below (smaller e f) s) e' f'
      (λ t. below_trans (smaller e f) e e' he (smaller_left e f) p)
      (λ t. below_trans (smaller e f) f f' hf (smaller_right e f) q)

-- Over one denominator, the lower fraction has the lower numerator.
ordered :
    (e f : Fraction) (a b d : ℕ) → 0 < e.den → 0 < f.den → Same e (over a d) → Same f (over b d) → Below e f → a ≤ b
unfolding Below Same
ordered e f a b d he hf p q t =
    let s : a * (e.den * f.den) ≤ b * (e.den * f.den) =
    omega (arith, mul-le-mul_right d t, ap (λ (z : ℕ). z * f.den) p, ap (λ (z : ℕ). z * e.den) q) in
    le_of_mul-le-mul_right s (mul-pos he hf)

-- So the smaller has the smaller of the two numerators, and the larger the larger.
module _ (e f : Fraction) (a b d : ℕ) (he : 0 < e.den) (hf : 0 < f.den) (p : Same e (over a d)) (q : Same f (over b d)) where
  pub smaller_over : Same (smaller e f) (over (min a b) d)
  smaller_over =
      smaller_is (λ s. Same s (over (min a b) d)) e f
      (λ t. let z : min a b ≡ a = min-eq_left (ordered e f a b d he hf p q t) in rw z p)
      (λ t. let z : min a b ≡ b = min-eq_right (ordered f e b a d hf he q p t) in rw z q)

  pub larger_over : Same (larger e f) (over (max a b) d)
  larger_over =
      larger_is (λ s. Same s (over (max a b) d)) e f
      (λ t. let z : max a b ≡ b = max-eq_right (ordered e f a b d he hf p q t) in rw z q)
      (λ t. let z : max a b ≡ a = max-eq_left (ordered f e b a d hf he q p t) in rw z p)
