-- Kind 3: its two stretches are the slopes, and rise with sk.
use Prim.Native.Nat.{ℕ, zero, suc, ◌+◌, ◌*◌, ◌≤◌, ◌<◌}
use mathlib.Core.Bool.{Bool, true, false}
use native.Mathlib.Omega.{arith}
use lib.Dec.{eqb}
use Rattle.figures.specs.declared.slopes.Slope.{Slope}
use Rattle.figures.specs.Bounds.{SlopeIn}
use Rattle.rounding.specs.Fraction.{Fraction}
use Rattle.rounding.specs.Load.{Positive}
use Rattle.standard.specs.Coefficients.{slope_mu}
use Rattle.standard.specs.Stretch.{load_alone, start_of}
use Rattle.standard.specs.Pitched.{halved, pitched}
use Rattle.standard.proofs.Numerators.{slope_mu_positive}
use Rattle.standard.proofs.Runs.{Readable, Level, Rises, WellFormed, even_readable, even_level, even_ends, formed}
use Rattle.standard.proofs.Loads.{alone_positive, steady_up}

pub halved_positive : (half : Bool) (mu : Fraction) → 0 < mu.den → 0 < (halved half mu).den
halved_positive true mu h = omega arith
halved_positive false mu h = h

slope_load_positive : (half : Bool) (slope : Slope) (guard factor sk : ℕ) → Positive (load_alone (halved half (slope_mu slope guard)) factor sk)
slope_load_positive half slope guard factor sk =
    alone_positive (halved half (slope_mu slope guard)) factor sk (halved_positive half (slope_mu slope guard) (slope_mu_positive slope guard))

module _ (factor : ℕ) (left right : Slope) (left_guard right_guard code : ℕ) where
  pitched_readable : (sk i : ℕ) → SlopeIn left → SlopeIn right → Readable (pitched factor sk left right left_guard right_guard code i)
  unfolding pitched
  pitched_readable sk zero f g = even_readable _ _ (omega (arith, f.width.low)) (slope_load_positive (eqb code 2) left left_guard factor sk)
  pitched_readable sk (suc i) f g = even_readable _ _ (omega (arith, g.width.low)) (slope_load_positive (eqb code 3) right right_guard factor sk)

  pub pitched_formed :
      (sk : ℕ) → SlopeIn left → SlopeIn right
      → WellFormed (pitched factor sk left right left_guard right_guard code) 2 (4 * (left.width + right.width))
  unfolding pitched start_of
  pitched_formed sk f g = formed _ _ _ (omega arith) (omega arith) (λ i h. pitched_readable sk i f g) (omega arith)

  pub pitched_rises :
      (s t i : ℕ) → s ≤ t
      → Rises (pitched factor s left right left_guard right_guard code i) (pitched factor t left right left_guard right_guard code i)
  unfolding pitched
  pitched_rises s t zero p = even_ends _ _ _ (steady_up factor s t (halved (eqb code 2) (slope_mu left left_guard)) p)
  pitched_rises s t (suc i) p = even_ends _ _ _ (steady_up factor s t (halved (eqb code 3) (slope_mu right right_guard)) p)

  pub pitched_level : (sk i : ℕ) → Level (pitched factor sk left right left_guard right_guard code i)
  unfolding pitched
  pitched_level sk zero = even_level _ _
  pitched_level sk (suc i) = even_level _ _
