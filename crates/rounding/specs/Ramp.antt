-- The line between the loads at the two ends of an uncut ramp.
use Rattle.std.specs.Prelude.{ℕ, ◌+◌, ◌-◌, ◌*◌}
use Rattle.rounding.specs.Fraction.{Fraction, over}
use Rattle.rounding.specs.Up.{ceil_div}

-- the exact line from e to f, x along a ramp of length full
unfoldable pub line : Fraction → Fraction → ℕ → ℕ → Fraction
line e f full x = over (e.num * f.den * (full - x) + f.num * e.den * x) (e.den * f.den * full)

-- the reading: the line between two break loads that are counted in parts, g to the N/m², rounded up to a whole N/m² once, at the end
unfoldable pub reading : ℕ → ℕ → ℕ → ℕ → ℕ → ℕ
reading g from to full x = ceil_div (from * (full - x) + to * x) (g * full)
