-- The four stretches of the drift in a valley, with what the code has of them: widths, and the rounded load at the valley.
use Prim.Native.Nat.{ℕ, zero, suc, ◌+◌, ◌-◌, ◌*◌, ◌≤◌, ◌<◌}
use mathlib.Core.Path.{◌≡◌}
use native.Mathlib.Omega.{arith}
use Rattle.figures.specs.Bounds.{MultiSpanIn}
use Rattle.figures.specs.Spans.{slope_of}
use Rattle.figures.specs.declared.slopes.Spans.{Spans}
use Rattle.ramps.specs.Ramps.{RoundedStretch, ramp_of}
use Rattle.ramps.proofs.Stretches.{made, no_load_lem, whole_ramp, even_ramp}
use Rattle.rounding.specs.Load.{alone, break_load}
use Rattle.standard.specs.Drift.{drift_row}
use Rattle.standard.specs.MultiSpan.{widths}
use Rattle.standard.specs.Units.{parts, largest_position}
use Rattle.standard.specs.ValleyDrift.{valley_peak, valley_drift}
use Rattle.standard.proofs.MultiSpan.{widths_most}
use Rattle.standard.proofs.ValleyDrift.{widths_up, first_slope, last_slope}

module _ (spans : Spans) (count v : ℕ) (f : MultiSpanIn count spans) (hv : suc v < count) where
  short : 4 * widths spans (2 * count) ≤ largest_position
  short = omega (arith, widths_most spans (2 * count) f.spans, f.count.high)

  -- the bare roof before a drift and behind it has a length, and is no longer than a roof may be
  pub before_in : (x : ℕ) → widths spans 0 + x ≡ widths spans (2 * v + 1) → (1 ≤ x) × (4 * x ≤ largest_position)
  unfolding widths
  before_in x e =
      (omega (arith, first_slope spans count v hv f), omega (arith, short, widths_up spans (2 * v + 1) (2 * count) (omega arith)))

  pub after_in : (x : ℕ) → widths spans (2 * v + 3) + x ≡ widths spans (2 * count) → (1 ≤ x) × (4 * x ≤ largest_position)
  after_in x e = (omega (arith, last_slope spans count v hv f), omega (arith, short))

module _ (spans : Spans) (count v sk : ℕ) (r : RoundedStretch) where
  pub bare_before :
      (x : ℕ) → widths spans 0 + x ≡ widths spans (2 * v + 1) → r ≡ made (4 * x) 0 (4 * x) 0 0 → r ≡ ramp_of (valley_drift sk spans count v 0)
  unfolding valley_drift drift_row widths
  bare_before x e m = let w : widths spans (2 * v + 1) ≡ x = omega (arith, e) in rw w (even_ramp r (4 * x) 0 _ m no_load_lem)

  pub ramp_up :
      (w a : ℕ) → w ≡ (slope_of spans (2 * v + 1)).width → a ≡ break_load parts (alone (valley_peak sk spans v))
      → r ≡ made (4 * w) 0 (4 * w) 0 a → r ≡ ramp_of (valley_drift sk spans count v 1)
  unfolding valley_drift drift_row
  ramp_up w a e p m = rw (← e) (whole_ramp r (4 * w) 0 a _ _ m no_load_lem p)

  pub ramp_down :
      (w a : ℕ) → w ≡ (slope_of spans (2 * v + 2)).width → a ≡ break_load parts (alone (valley_peak sk spans v))
      → r ≡ made (4 * w) 0 (4 * w) a 0 → r ≡ ramp_of (valley_drift sk spans count v 2)
  unfolding valley_drift drift_row
  ramp_down w a e p m = rw (← e) (whole_ramp r (4 * w) a 0 _ _ m p no_load_lem)

  pub bare_after :
      (i x : ℕ) → 2 < i → widths spans (2 * v + 3) + x ≡ widths spans (2 * count) → r ≡ made (4 * x) 0 (4 * x) 0 0
      → r ≡ ramp_of (valley_drift sk spans count v i)
  unfolding valley_drift drift_row
  bare_after zero x h e m = absurd (omega arith)
  bare_after (suc zero) x h e m = absurd (omega arith)
  bare_after (suc (suc zero)) x h e m = absurd (omega arith)
  bare_after (suc (suc (suc i))) x h e m =
      let w : widths spans (2 * count) - widths spans (2 * v + 3) ≡ x = omega arith in
      rw w (even_ramp r (4 * x) 0 _ m no_load_lem)
