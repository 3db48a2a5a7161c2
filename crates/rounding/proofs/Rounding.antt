-- What rounding up gives: the least whole number not below the exact value, which keeps the order of what is rounded.
use mathlib.Core.Path.{◌≡◌, sym, ap}
use Prim.Native.Nat.{ℕ, ◌+◌, ◌-◌, ◌*◌, ◌/◌, ◌%◌, ◌≤◌, ◌<◌, min}
use native.Mathlib.Nat.{div-zero, div-mul-le_self, lt-div-mul-add, le_of_mul-le-mul_left, le_of_mul-le-mul_right, lt_of_mul-lt-mul_right, mul-le-mul_left, mul-le-mul_right, mul-pos}
use native.Mathlib.Omega.{arith}
use Rattle.std.proofs.lemmas.Grind.{div_ceil_times}
use Rattle.rounding.specs.Fraction.{Fraction, over, AtMost, Under, Below, Same, Close}
use Rattle.rounding.specs.Up.{ceil_div, rounded_up, Smallest}

-- These two say all that the laws below need of `ceil_div`: it reaches the quotient, and is less than 1 above it.
pub reaches : (n d : ℕ) → 0 < d → n ≤ ceil_div n d * d
unfolding ceil_div
reaches n d h = omega (arith, lt-div-mul-add {a = n + (d - 1)} {b = d} h)

pub near : (n d : ℕ) → 0 < d → ceil_div n d * d < n + d
unfolding ceil_div
near n d h = omega (arith, div-mul-le_self (n + (d - 1)) d)

-- No smaller whole number reaches the quotient.
pub least : (n d k : ℕ) → 0 < d → n ≤ k * d → ceil_div n d ≤ k
least n d k h p =
    let q : ceil_div n d * d < (k + 1) * d = omega (arith, near n d h) in
    omega (arith, lt_of_mul-lt-mul_right d q)

pub below_least : (n d k : ℕ) → 0 < d → k * d < n → k < ceil_div n d
below_least n d k h p =
    let q : k * d < ceil_div n d * d = omega (arith, reaches n d h) in
    lt_of_mul-lt-mul_right d q

pub unique : (n d r : ℕ) → 0 < d → n ≤ r * d → r * d < n + d → r ≡ ceil_div n d
unique n d r h p q =
    let s : r * d < (ceil_div n d + 1) * d = omega (arith, reaches n d h) in
    omega (arith, least n d r h p, lt_of_mul-lt-mul_right d s)

-- Nothing is rounded where the quotient is whole, and 0 is given where there is none.
pub whole : (n d r : ℕ) → 0 < d → n ≡ r * d → ceil_div n d ≡ r
whole n d r h p = sym (unique n d r h (omega arith) (omega arith))

-- The quotient, and one more where a remainder is left: what `div_ceil` of a number gives.
pub quotient_up : (n d : ℕ) → 0 < d → n / d + min 1 (n % d) ≡ ceil_div n d
quotient_up n d h =
    let t = div_ceil_times n d h in
    unique n d (n / d + min 1 (n % d)) h t.0 t.1

pub by_zero : (n : ℕ) → ceil_div n 0 ≡ 0
unfolding ceil_div
by_zero n = div-zero (n + (0 - 1))

-- Order is kept: over one denominator, and over any two.
pub mono : (a b d : ℕ) → 0 < d → a ≤ b → ceil_div a d ≤ ceil_div b d
mono a b d h p = least a d (ceil_div b d) h (omega (arith, reaches b d h))

pub cross : (n d m e : ℕ) → 0 < d → 0 < e → n * e ≤ m * d → ceil_div n d ≤ ceil_div m e
cross n d m e hd he p =
    let r : n * e ≤ ceil_div m e * d * e = omega (arith, mul-le-mul_right d (reaches m e he)) in
    least n d (ceil_div m e) hd (le_of_mul-le-mul_right r he)

-- A factor above and below the line changes nothing: a load in tenths is its numerator over a tenth of its denominator.
pub same_factor : (c n d : ℕ) → 0 < c → 0 < d → ceil_div (c * n) (c * d) ≡ ceil_div n d
same_factor c n d hc hd =
    omega (arith, cross (c * n) (c * d) n d (mul-pos hc hd) hd (omega arith), cross n d (c * n) (c * d) hd (mul-pos hc hd) (omega arith))

-- The same of a fraction that is counted in parts, g to one.
pub up_close : (g : ℕ) (f : Fraction) → 0 < f.den → Close g 1 (rounded_up g f) f
unfolding rounded_up
up_close g f h = record { low = reaches (g * f.num) f.den h; high = omega (arith, near (g * f.num) f.den h) }

pub up_least : (g r : ℕ) (f : Fraction) → 0 < f.den → g * f.num ≤ r * f.den → rounded_up g f ≤ r
unfolding rounded_up
up_least g r f h p = least (g * f.num) f.den r h p

pub up_mono : (g : ℕ) (e f : Fraction) → 0 < e.den → 0 < f.den → Below e f → rounded_up g e ≤ rounded_up g f
unfolding rounded_up Below
up_mono g e f he hf p = cross (g * e.num) e.den (g * f.num) f.den he hf (omega (arith, mul-le-mul_left g p))

-- With one part to one, the count is the number itself.
pub close_whole : (k r : ℕ) (f : Fraction) → Close 1 k r f → AtMost f r × Under r f k
unfolding AtMost Under
close_whole k r f c = (omega arith, omega arith)

-- In ones, what is rounded up is the smallest whole number not below the fraction, as `ceil_div` gives it.
pub up_smallest : (f : Fraction) → 0 < f.den → Smallest f (rounded_up 1 f)
unfolding AtMost
up_smallest f h =
    record {
      positive = h;
      reaches = omega (arith, (up_close 1 f h).low);
      least = λ n a. up_least 1 n f h (omega arith);
    }

pub up_whole : (n d : ℕ) → ceil_div n d ≡ rounded_up 1 (over n d)
unfolding rounded_up
up_whole n d = ap (λ (z : ℕ). ceil_div z d) (omega arith)

-- Rounded up to a part, and the parts then to a whole number, is rounded up to a whole number.
pub up_twice : (g : ℕ) (f : Fraction) → 0 < g → 0 < f.den → ceil_div (rounded_up g f) g ≡ rounded_up 1 f
up_twice g f hg hd =
    let F = rounded_up g f in
    let k = rounded_up 1 f in
    let R = ceil_div F g in
    let a : F ≤ g * k = up_least g (g * k) f hd (omega (arith, mul-le-mul_left g (up_close 1 f hd).low)) in
    let b : R ≤ k = least F g k hg (omega arith) in
    let e : g * f.num ≤ g * (R * f.den) = omega (arith, (up_close g f hd).low, mul-le-mul_right f.den (reaches F g hg)) in
    let u : f.num ≤ R * f.den = le_of_mul-le-mul_left e hg in
    omega (arith, up_least 1 R f hd (omega arith))

-- 0 is rounded up to 0.
pub up_nothing : (g : ℕ) → rounded_up g (over 0 1) ≡ 0
unfolding rounded_up
up_nothing g = whole (g * 0) 1 0 (omega arith) (omega arith)

-- One number in two forms is rounded up to one.
pub same_below : (e f : Fraction) → Same e f → Below e f
unfolding Same Below
same_below e f p = omega arith

pub same_sym : (e f : Fraction) → Same e f → Same f e
unfolding Same
same_sym e f p = sym p

pub up_same : (g : ℕ) (e f : Fraction) → 0 < e.den → 0 < f.den → Same e f → rounded_up g e ≡ rounded_up g f
up_same g e f he hf p =
    omega (arith, up_mono g e f he hf (same_below e f p), up_mono g f e hf he (same_below f e (same_sym e f p)))
