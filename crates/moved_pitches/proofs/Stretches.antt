-- Kind by kind: where no pitch has moved by more than a tenth, each exact load at a break lies at most X/375 above what it was.
use Prim.Native.Nat.{ℕ, zero, suc, ◌+◌, ◌-◌, ◌*◌, ◌≤◌}
use mathlib.Core.Bool.{Bool, true, false, cond}
use mathlib.Core.Path.{◌≡◌, refl}
use lib.Dec.{eqb}
use native.Mathlib.Omega.{arith}
use Rattle.figures.specs.Bounds.{ShapeIn}
use Rattle.figures.specs.Spans.{slope_of, valley_of}
use Rattle.figures.specs.declared.national.National.{National}
use Rattle.figures.specs.declared.site.Site.{Site}
use Rattle.figures.specs.declared.slopes.Slope.{Slope}
use Rattle.figures.specs.declared.slopes.Spans.{Spans}
use Rattle.figures.specs.declared.roof.Shape.{Shape}
use Rattle.rounding.specs.Fraction.{Fraction}
use Rattle.standard.specs.Arrangements.{factor_of, count_in, stretch_in, end_in}
use Rattle.standard.specs.Codes.{names_drift, drift_named}
use Rattle.standard.specs.Coefficients.{guarded}
use Rattle.standard.specs.Monopitch.{monopitch}
use Rattle.standard.specs.MultiSpan.{own_load, valley_load, multi_span, widths}
use Rattle.standard.specs.Pitched.{pitched, slope_stretch}
use Rattle.standard.specs.Stretch.{Stretch}
use Rattle.standard.specs.ValleyDrift.{valley_peak, valley_drift, spans_stretch}
use Rattle.standard.proofs.MultiSpan.{multi_span_ends}
use Rattle.standard.proofs.Runs.{even_ends}
use Rattle.moved_pitches.specs.Apart.{tenth_cost}
use Rattle.moved_pitches.specs.Pitches.{spans_with, pitch_in, with_pitches, TenthApart}
use Rattle.moved_pitches.proofs.Apart.{LoadsAbove, loads_refl}
use Rattle.moved_pitches.proofs.Coefficients.{slope_mu_above, mu2_above, halved_above, loads_above}
use Rattle.moved_pitches.proofs.Shapes.{SlopesApart, slopes_apart, every_shape}
use Rattle.moved_pitches.proofs.Runs.{Above}

above_same : (d : Fraction) (s t : Stretch) → s ≡ t → Above d s t
above_same d s t e = rw e (record { extent = refl; skip = refl; full = refl; from = loads_refl d _; to = loads_refl d _ })

module _ (site : Site) (code : ℕ) where
  -- kind 2, and each slope of kind 3, where half of a load moves by half
  slope_above :
      (half : Bool) (s t : Slope) (guard : ℕ) → guard ≤ 1 → SlopesApart s t
      → Above (tenth_cost site code) (slope_stretch (factor_of site code) site.sk s guard half) (slope_stretch (factor_of site code) site.sk t guard half)
  slope_above half s t guard g a =
      rw (a.width) (even_ends _ _ _ (loads_above site code _ _ (halved_above half _ _ (slope_mu_above s t guard g a.pitch))))

  pitched_above :
      (left right left' right' : Slope) (left_guard right_guard base i : ℕ) → left_guard ≤ 1 → right_guard ≤ 1 → SlopesApart left left' → SlopesApart right right'
      → Above (tenth_cost site code) (pitched (factor_of site code) site.sk left right left_guard right_guard base i)
      (pitched (factor_of site code) site.sk left' right' left_guard right_guard base i)
  unfolding pitched
  pitched_above left right left' right' left_guard right_guard base zero g h a b = slope_above (eqb base 2) left left' left_guard g a
  pitched_above left right left' right' left_guard right_guard base (suc i) g h a b = slope_above (eqb base 3) right right' right_guard h b

  -- kind 4
  module _ (spans spans' : Spans) (a : (i : ℕ) → SlopesApart (slope_of spans i) (slope_of spans' i)) where
    own_above :
        (i : ℕ) → LoadsAbove (tenth_cost site code) (own_load (factor_of site code) site.sk spans i) (own_load (factor_of site code) site.sk spans' i)
    unfolding own_load guarded
    own_above i = loads_above site code _ _ (slope_mu_above (slope_of spans i) (slope_of spans' i) 0 (omega arith) (a i).pitch)

    valley_above :
        (i : ℕ)
        → LoadsAbove (tenth_cost site code) (valley_load (factor_of site code) site.sk spans i) (valley_load (factor_of site code) site.sk spans' i)
    unfolding valley_load
    valley_above i = loads_above site code _ _ (mu2_above _ _ (omega (arith, (a i).pitch.up, (a (i + 1)).pitch.up)))

    multi_span_above :
        (count : ℕ) (undrifted : Bool) (i : ℕ)
        → Above (tenth_cost site code) (multi_span (factor_of site code) site.sk spans count undrifted i)
        (multi_span (factor_of site code) site.sk spans' count undrifted i)
    multi_span_above count undrifted i = multi_span_ends _ _ _ _ _ _ count undrifted i (a i).width (own_above i) valley_above

-- kind 9: the widths are as they were, so a drift in a valley is
module _ (spans : Spans) (p : ℕ → ℕ) (a : (i : ℕ) → SlopesApart (slope_of spans i) (slope_of (spans_with spans p) i)) where
  widths_same : (n : ℕ) → widths spans n ≡ widths (spans_with spans p) n
  unfolding widths
  widths_same zero = refl
  widths_same (suc n) = omega (arith, widths_same n, (a n).width)

  drift_same : (sk count v i : ℕ) → valley_drift sk spans count v i ≡ valley_drift sk (spans_with spans p) count v i
  unfolding valley_drift valley_peak valley_of
  drift_same sk count v i =
      rw (widths_same (2 * v + 1), widths_same (2 * v + 3), widths_same (2 * count), (a (2 * v + 1)).width, (a (2 * v + 2)).width)

  spans_above :
      (site : Site) (code base count i : ℕ)
      → Above (tenth_cost site code) (spans_stretch (factor_of site code) site.sk spans count base i)
      (spans_stretch (factor_of site code) site.sk (spans_with spans p) count base i)
  unfolding spans_stretch
  spans_above site code base count i = go (names_drift (count - 1) base)
    where
      go :
          (b : Bool)
          → Above (tenth_cost site code)
          (cond b (valley_drift site.sk spans count (drift_named base) i) (multi_span (factor_of site code) site.sk spans count (eqb base 1) i))
          (cond b (valley_drift site.sk (spans_with spans p) count (drift_named base) i)
          (multi_span (factor_of site code) site.sk (spans_with spans p) count (eqb base 1) i))
      go true = above_same _ _ _ (drift_same site.sk count (drift_named base) i)
      go false = multi_span_above site code spans (spans_with spans p) a count (eqb base 1) i

-- every kind
module _ (spans : Spans) (p : ℕ → ℕ) where
  pub stretches_above :
      (national : National) (site : Site) (code base i : ℕ) (shape : Shape) → ShapeIn shape spans → ((j : ℕ) → TenthApart (pitch_in shape spans j) (p j))
      → Above (tenth_cost site code) (stretch_in national shape spans (factor_of site code) site.sk base i)
      (stretch_in national (with_pitches shape spans p).shape (with_pitches shape spans p).spans (factor_of site code) site.sk base i)
  unfolding stretch_in with_pitches pitch_in monopitch
  stretches_above national site code base i =
      every_shape
      (λ shape. ShapeIn shape spans → ((j : ℕ) → TenthApart (pitch_in shape spans j) (p j))
      → Above (tenth_cost site code) (stretch_in national shape spans (factor_of site code) site.sk base i)
      (stretch_in national (with_pitches shape spans p).shape (with_pitches shape spans p).spans (factor_of site code) site.sk base i))
      (λ slope f a. slope_above site code false _ _ slope.guard f.guard (record { width = refl; pitch = a 0 }))
      (λ left right f a.
      pitched_above site code left.slope right.slope _ _ left.guard right.guard base i f.left.guard f.right.guard
      (record { width = refl; pitch = a 0 }) (record { width = refl; pitch = a 1 }))
      (λ count drifts f a. spans_above spans p (slopes_apart spans p a) site code base count i)
      (λ shape n f a. rw (n.same spans p) (above_same _ _ _ refl))

  -- segments are as many, and the roof as long
  pub counts_same : (national : National) (base : ℕ) (shape : Shape) → count_in national (with_pitches shape spans p).shape base ≡ count_in national shape base
  unfolding count_in with_pitches
  counts_same national base =
      every_shape (λ shape. count_in national (with_pitches shape spans p).shape base ≡ count_in national shape base)
      (λ slope. refl) (λ left right. refl) (λ count drifts. refl) (λ shape n. rw (n.same spans p))

  pub ends_same :
      (shape : Shape) → ((j : ℕ) → TenthApart (pitch_in shape spans j) (p j))
      → end_in (with_pitches shape spans p).shape (with_pitches shape spans p).spans ≡ end_in shape spans
  unfolding end_in with_pitches pitch_in
  ends_same =
      every_shape
      (λ shape. ((j : ℕ) → TenthApart (pitch_in shape spans j) (p j))
      → end_in (with_pitches shape spans p).shape (with_pitches shape spans p).spans ≡ end_in shape spans)
      (λ slope a. refl) (λ left right a. refl)
      (λ count drifts a. rw (widths_same spans p (slopes_apart spans p a) (2 * count)))
      (λ shape n a. rw (n.same spans p))
