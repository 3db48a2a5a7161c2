-- Kind 3, 5.3.3: code 1 has each slope's μ1; code 2 halves the left, code 3 the right.
use Rattle.std.specs.Prelude.{ℕ, zero, suc, ◌*◌, Bool, cond, eqb}
use Rattle.figures.specs.declared.slopes.Slope.{Slope}
use Rattle.rounding.specs.Fraction.{Fraction, over}
use Rattle.standard.specs.Coefficients.{slope_mu}
use Rattle.standard.specs.Stretch.{Stretch, even, load_alone}

-- μ, or half of it
abbrev pub halved : Bool → Fraction → Fraction
halved half mu = cond half (over mu.num (2 * mu.den)) mu

-- a slope of one load
abbrev pub slope_stretch : ℕ → ℕ → Slope → ℕ → Bool → Stretch
slope_stretch factor sk slope guard half = even (4 * slope.width) (load_alone (halved half (slope_mu slope guard)) factor sk)

unfoldable pub pitched : ℕ → ℕ → Slope → Slope → ℕ → ℕ → ℕ → ℕ → Stretch
pitched factor sk left right left_guard right_guard code zero = slope_stretch factor sk left left_guard (eqb code 2)
pitched factor sk left right left_guard right_guard code (suc i) = slope_stretch factor sk right right_guard (eqb code 3)
