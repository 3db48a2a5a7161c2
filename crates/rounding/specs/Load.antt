-- The load at a break: the sum of two parts, of which each is rounded up by itself.
use Rattle.std.specs.Prelude.{ℕ, ◌+◌, ◌<◌}
use Rattle.rounding.specs.Fraction.{Fraction, over, sum}
use Rattle.rounding.specs.Up.{rounded_up}

pub record Load : Type 0 where
  pub first : Fraction
  pub second : Fraction

-- a load of one part: the other is 0
abbrev pub alone : Fraction → Load
alone f = record { first = f; second = over 0 1 }

-- both denominators are positive
pub record Positive (l : Load) : Type 0 where
  pub first : 0 < l.first.den
  pub second : 0 < l.second.den

-- the load, no part rounded
unfoldable pub exact : Load → Fraction
exact l = sum l.first l.second

-- the load counted in parts, g to the N/m²: first and second are each rounded up, and added
unfoldable pub break_load : ℕ → Load → ℕ
break_load g l = rounded_up g l.first + rounded_up g l.second
