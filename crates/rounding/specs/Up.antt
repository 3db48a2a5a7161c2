-- "Rounded up": the smallest whole number not below the exact value.
use Rattle.std.specs.Prelude.{ℕ, ◌+◌, ◌-◌, ◌*◌, ◌/◌, ◌≤◌, ◌<◌}
use Rattle.rounding.specs.Fraction.{Fraction, AtMost}

-- the smallest whole number not below n / d, and 0 where d is 0
unfoldable pub ceil_div : ℕ → ℕ → ℕ
ceil_div n d = (n + (d - 1)) / d

-- f counted in parts, g to one, and rounded up
unfoldable pub rounded_up : ℕ → Fraction → ℕ
rounded_up g f = ceil_div (g * f.num) f.den

-- r is the smallest whole number not below f
pub record Smallest (f : Fraction) (r : ℕ) : Type 0 where
  pub positive : 0 < f.den
  pub reaches : AtMost f r
  pub least : (n : ℕ) → AtMost f n → r ≤ n
