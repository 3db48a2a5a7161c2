-- Limits: the smaller and the larger of two fractions, and a whole number held to a range.
use Rattle.std.specs.Prelude.{ℕ, ◌*◌, min, max, cond, leb}
use Rattle.rounding.specs.Fraction.{Fraction}

-- the smaller of e and f
unfoldable pub smaller : Fraction → Fraction → Fraction
smaller e f = cond (leb (e.num * f.den) (f.num * e.den)) e f

-- the larger of e and f
unfoldable pub larger : Fraction → Fraction → Fraction
larger e f = cond (leb (e.num * f.den) (f.num * e.den)) f e

-- x, held to low..high
unfoldable pub held_to : ℕ → ℕ → ℕ → ℕ
held_to low high x = max low (min high x)
