-- Document 02, A13: "one pitch moved by a tenth". Pitches are in tenths of a degree.
use Rattle.std.specs.Prelude.{ℕ, suc, ◌+◌, ◌*◌, ◌≤◌, ◌<◌, ◌≡◌, cond, List, [], ◌∷◌, eqb}
use Rattle.figures.specs.RoofRules.{roof_of}
use Rattle.figures.specs.Spans.{slope_of}
use Rattle.figures.specs.declared.slopes.Slope.{Slope}
use Rattle.figures.specs.declared.slopes.GuardedSlope.{GuardedSlope}
use Rattle.figures.specs.declared.slopes.Spans.{Spans}
use Rattle.figures.specs.declared.roof.Shape.{Shape}
use Rattle.figures.specs.declared.roof.Shape.TheVariants.{Monopitch, Pitched, MultiSpan}
use Rattle.figures.specs.declared.roof.Roof.{Roof}

-- how many slopes a roof of kind 2, 3 or 4 has, and one of kind 9, which is kind 4 with drifts. Slopes are counted from 0 at the left.
-- A roof of another kind has none: the pitch of kinds 6 and 10 is that of the roof above, and "No such bound covers sliding across 15.0°"
unfoldable pub slope_count : Shape → ℕ
slope_count (Monopitch slope) = 1
slope_count (Pitched left right) = 2
slope_count (MultiSpan count drifts) = 2 * count
slope_count shape = 0

-- the pitch of slope i
unfoldable pub pitch_in : Shape → Spans → ℕ → ℕ
pitch_in (Monopitch slope) spans i = slope.slope.pitch
pitch_in (Pitched left right) spans i = cond (eqb i 0) left.slope.pitch right.slope.pitch
pitch_in (MultiSpan count drifts) spans i = (slope_of spans i).pitch
pitch_in shape spans i = 0

abbrev pub pitch_of : Roof → ℕ → ℕ
pitch_of roof i = pitch_in roof.shape roof.spans i

-- a slope with another pitch: width and guard are as they were
abbrev pub slope_with : Slope → ℕ → Slope
slope_with slope pitch = record { pitch = pitch; width = slope.width }

abbrev pub guarded_with : GuardedSlope → ℕ → GuardedSlope
guarded_with slope pitch = record { slope = slope_with slope.slope pitch; guard = slope.guard }

-- a row of slopes, of which slope i has the pitch p i
unfoldable pub row_with : List Slope → (ℕ → ℕ) → List Slope
row_with [] p = []
row_with (slope ∷ row) p = slope_with slope (p 0) ∷ row_with row (λ i. p (suc i))

abbrev pub spans_with : Spans → (ℕ → ℕ) → Spans
spans_with spans p = record { slopes = row_with spans.slopes p; valleys = spans.valleys }

-- the roof with the pitch p i at slope i, and all else as it was
unfoldable pub with_pitches : Shape → Spans → (ℕ → ℕ) → Roof
with_pitches (Monopitch slope) spans p = roof_of (Monopitch (guarded_with slope (p 0))) spans
with_pitches (Pitched left right) spans p = roof_of (Pitched (guarded_with left (p 0)) (guarded_with right (p 1))) spans
with_pitches (MultiSpan count drifts) spans p = roof_of (MultiSpan count drifts) (spans_with spans p)
with_pitches shape spans p = roof_of shape spans

abbrev pub roof_with : Roof → (ℕ → ℕ) → Roof
roof_with roof p = with_pitches roof.shape roof.spans p

-- the pitches of a roof, with another at slope k
abbrev pub pitches_but : Roof → ℕ → ℕ → ℕ → ℕ
pitches_but roof k pitch i = cond (eqb i k) pitch (pitch_of roof i)

-- at most a tenth of a degree apart
pub record TenthApart (p q : ℕ) : Type 0 where
  pub up : p ≤ q + 1
  pub down : q ≤ p + 1

-- "one pitch moved by a tenth": the other roof has a pitch at most a tenth from the roof's own at one of its slopes, and is alike for the rest
pub record PitchMoved (roof other : Roof) : Type 0 where
  pub slope : ℕ
  pub pitch : ℕ
  pub on_roof : slope < slope_count roof.shape
  pub by_a_tenth : TenthApart (pitch_of roof slope) pitch
  pub alike : other ≡ roof_with roof (pitches_but roof slope pitch)

-- every pitch moved by a tenth at most, as where all are measured: the bound is the same
pub record PitchesMoved (roof other : Roof) : Type 0 where
  pub pitches : ℕ → ℕ
  pub by_a_tenth : (i : ℕ) → TenthApart (pitch_of roof i) (pitches i)
  pub alike : other ≡ roof_with roof pitches
