-- S on a slope, as the code has it.
use Prim.Native.Nat.{ℕ, ◌≤◌}
use mathlib.Core.Path.{◌≡◌, ◌∙◌}
use native.Mathlib.Omega.{arith}
use Rattle.figures.specs.Bounds.{SiteIn}
use Rattle.figures.specs.declared.site.Site.{Site}
use Rattle.figures.specs.declared.slopes.Slope.{Slope}
use Rattle.rounding.specs.Load.{break_load}
use Rattle.rounding.specs.Up.{ceil_div}
use Rattle.rounding.proofs.Ramps.{break_alone, alone_whole}
use Rattle.standard.specs.Arrangements.{factor_of}
use Rattle.standard.specs.Coefficients.{slope_mu}
use Rattle.standard.specs.Stretch.{load, load_alone}
use Rattle.standard.specs.Forces.{slope_load, whole_load}
use Rattle.standard.specs.Units.{parts}
use Rattle.standard.proofs.Forces.{whole_most}
use Rattle.standard.proofs.Loads.{load_positive}
use Rattle.standard.proofs.Numerators.{slope_mu_positive}

-- S, by the factor of code 1: a load of one part in tenths, rounded up to a whole N/m²
module _ (site : Site) (slope : Slope) (guard f k t r : ℕ) (p : f ≡ factor_of site 1) (q : k ≡ site.sk)
    (w : t ≡ break_load parts (load_alone (slope_mu slope guard) f k)) (e : r ≡ ceil_div t parts) where
  pub whole_is : r ≡ whole_load site slope guard
  unfolding whole_load slope_load
  whole_is =
      let s = load (slope_mu slope guard) (factor_of site 1) site.sk in
      let u = load_positive (slope_mu slope guard) (factor_of site 1) site.sk (slope_mu_positive slope guard) in
      e ∙ rw (w, p, q, break_alone 1 s) (alone_whole parts s (omega arith) u)

  pub most : SiteIn site → guard ≤ 1 → r ≤ 24000
  most h g = rw whole_is (whole_most site slope guard h g)
