-- Exact values: fractions of whole numbers, and how they compare with whole numbers and with each other.
-- An order between two fractions says nothing where a denominator is 0, so whoever makes a fraction shows that its denominator is positive.
use Rattle.std.specs.Prelude.{ℕ, ◌+◌, ◌*◌, ◌≤◌, ◌<◌, ◌≡◌}

pub record Fraction : Type 0 where
  pub num : ℕ
  pub den : ℕ

-- n / d
abbrev pub over : ℕ → ℕ → Fraction
over n d = record { num = n; den = d }

-- f ≤ r
unfoldable pub AtMost : Fraction → ℕ → Type 0
AtMost f r = f.num ≤ r * f.den

-- r < f + k
unfoldable pub Under : ℕ → Fraction → ℕ → Type 0
Under r f k = r * f.den < f.num + k * f.den

-- r < f + k/g
unfoldable pub UnderParts : ℕ → ℕ → Fraction → ℕ → Type 0
UnderParts g r f k = g * r * f.den < g * f.num + k * f.den

-- e ≤ f
unfoldable pub Below : Fraction → Fraction → Type 0
Below e f = e.num * f.den ≤ f.num * e.den

-- e and f are one number
unfoldable pub Same : Fraction → Fraction → Type 0
Same e f = e.num * f.den ≡ f.num * e.den

-- r is counted in parts, g to one: f ≤ r/g < f + k/g
pub record Close (g k r : ℕ) (f : Fraction) : Type 0 where
  pub low : g * f.num ≤ r * f.den
  pub high : r * f.den < g * f.num + k * f.den

-- r is a whole number: f ≤ r < f + k/g; f is a true fraction
pub record Near (g k r : ℕ) (f : Fraction) : Type 0 where
  pub positive : 0 < f.den
  pub low : AtMost f r
  pub high : UnderParts g r f k

-- e + f
unfoldable pub sum : Fraction → Fraction → Fraction
sum e f = over (e.num * f.den + f.num * e.den) (e.den * f.den)
