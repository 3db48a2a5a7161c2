-- Kind 2, 5.3.2: the slope's μ1 all along.
use Rattle.std.specs.Prelude.{ℕ, ◌*◌}
use Rattle.figures.specs.declared.slopes.Slope.{Slope}
use Rattle.standard.specs.Coefficients.{slope_mu}
use Rattle.standard.specs.Stretch.{Stretch, even, load_alone}

unfoldable pub monopitch : ℕ → ℕ → Slope → ℕ → ℕ → Stretch
monopitch factor sk slope guard i = even (4 * slope.width) (load_alone (slope_mu slope guard) factor sk)
