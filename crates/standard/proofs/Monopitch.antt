-- Kind 2: its one stretch is the roof, and rises with sk.
use Prim.Native.Nat.{ℕ, ◌*◌, ◌≤◌}
use native.Mathlib.Omega.{arith}
use Rattle.figures.specs.declared.slopes.Slope.{Slope}
use Rattle.figures.specs.Bounds.{SlopeIn}
use Rattle.standard.specs.Coefficients.{slope_mu}
use Rattle.standard.specs.Stretch.{start_of}
use Rattle.standard.specs.Monopitch.{monopitch}
use Rattle.standard.proofs.Numerators.{slope_mu_positive}
use Rattle.standard.proofs.Runs.{Level, Rises, WellFormed, even_readable, even_level, even_ends, formed}
use Rattle.standard.proofs.Loads.{alone_positive, steady_up}

module _ (factor : ℕ) (slope : Slope) (guard : ℕ) where
  pub monopitch_formed : (sk : ℕ) → SlopeIn slope → WellFormed (monopitch factor sk slope guard) 1 (4 * slope.width)
  unfolding monopitch start_of
  monopitch_formed sk f =
      formed _ _ _ (omega arith) (omega arith)
      (λ i h. even_readable _ _ (omega (arith, f.width.low)) (alone_positive (slope_mu slope guard) factor sk (slope_mu_positive slope guard)))
      (omega arith)

  pub monopitch_rises : (s t i : ℕ) → s ≤ t → Rises (monopitch factor s slope guard i) (monopitch factor t slope guard i)
  unfolding monopitch
  monopitch_rises s t i p = even_ends _ _ _ (steady_up factor s t (slope_mu slope guard) p)

  pub monopitch_level : (sk i : ℕ) → Level (monopitch factor sk slope guard i)
  unfolding monopitch
  monopitch_level sk i = even_level _ _
