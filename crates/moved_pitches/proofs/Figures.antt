-- What a pitch moved by a tenth does to loads read, worked by hand with exact fractions.
use Prim.Native.Nat.{ℕ}
use mathlib.Core.Bool.{false}
use mathlib.Core.List.{List, [], ◌∷◌, map}
use mathlib.Core.Path.{◌≡◌, refl}
use lib.ListN.{replicate}
use native.Mathlib.Omega.{arith}
use Rattle.std.specs.Prelude.{None}
use Rattle.figures.specs.National.{recommended_figures}
use Rattle.figures.specs.RoofRules.{roof_of, roof_refusal, shape_refusal, slopes_fields, valleys_fields, steep_valleys}
use Rattle.figures.specs.Rules.{first_of}
use Rattle.figures.specs.Spans.{no_spans, slope_of}
use Rattle.figures.specs.declared.site.Site.{Site}
use Rattle.figures.specs.declared.roof.Shape.TheVariants.{Abutting}
use Rattle.figures.specs.declared.roof.Roof.{Roof}
use Rattle.rounding.specs.Fraction.{UnderParts, sum}
use Rattle.rounding.specs.Limit.{smaller, larger, held_to}
use Rattle.rounding.specs.Load.{break_load}
use Rattle.rounding.specs.Ramp.{reading}
use Rattle.rounding.specs.Up.{ceil_div, rounded_up}
use Rattle.standard.specs.Abutting.{wall_load, abutting_drift, abutting, abutting_count}
use Rattle.standard.specs.Arrangements.{factor_of, count_in, stretch_in, count, stretch, load_in_parts, load_at}
use Rattle.standard.specs.Coefficients.{mu1, guarded, mu2, drift_length, mu_wind, mu_slide}
use Rattle.standard.specs.Monopitch.{monopitch}
use Rattle.standard.specs.MultiSpan.{own_load, valley_load, multi_span_from, multi_span_to, multi_span}
use Rattle.standard.specs.Pitched.{pitched}
use Rattle.standard.specs.Stretch.{load, read_in, start_of, holds, reading_at, greatest}
use Rattle.standard.specs.ValleyDrift.{spans_stretch, spans_count}
use Rattle.moved_pitches.specs.Apart.{tenth_cost, ReadingsApart}
use Rattle.moved_pitches.specs.Pitches.{PitchMoved, slope_count, pitch_in, row_with, with_pitches}
use Rattle.moved_pitches.proofs.Shapes.{with_guard, one_slope, two_slopes, two_spans}

-- kind 6, below a roof of 10,000 mm with the pitch of its slope
abbrev below : ℕ → Roof
below pitch =
    roof_of (Abutting (record { b1 = 10000; b2 = 10000; h = 3000; slope = with_guard pitch 0 10000; stepped = false })) no_spans

abbrev site : ℕ → ℕ → ℕ → Site
site sk ce cesl = record { sk = sk; ce = ce; ct = 100; cesl = cesl; situation = 1; altitude = 500; day = None }

-- the loads of two roofs at a station, and X/375, rounded up
abbrev read : Site → ℕ → ℕ → Roof → Roof → List ℕ
read s code p roof other =
    load_at recommended_figures s roof code p ∷ load_at recommended_figures s other code p ∷ rounded_up 1 (tenth_cost s code) ∷ []

-- pairs alike but for one pitch, a tenth steeper or flatter
pub pairs_moved :
    PitchMoved (one_slope 599) (one_slope 600) × PitchMoved (two_slopes 525 400) (two_slopes 524 400)
    × PitchMoved (two_slopes 200 400) (two_slopes 200 401) × PitchMoved (two_spans 337 161) (two_spans 337 160)
    × PitchMoved (two_spans 337 161) (two_spans 338 161)
unfolding slope_count with_pitches pitch_in row_with slope_of
pairs_moved = (
  record { slope = 0; pitch = 600; on_roof = omega arith; by_a_tenth = record { up = omega arith; down = omega arith }; alike = refl },
  record { slope = 0; pitch = 524; on_roof = omega arith; by_a_tenth = record { up = omega arith; down = omega arith }; alike = refl },
  record { slope = 1; pitch = 401; on_roof = omega arith; by_a_tenth = record { up = omega arith; down = omega arith }; alike = refl },
  record { slope = 2; pitch = 160; on_roof = omega arith; by_a_tenth = record { up = omega arith; down = omega arith }; alike = refl },
  record { slope = 1; pitch = 338; on_roof = omega arith; by_a_tenth = record { up = omega arith; down = omega arith }; alike = refl },
)

-- and each of these roofs is accepted
pub pairs_accepted :
    map roof_refusal (one_slope 599 ∷ one_slope 600 ∷ two_slopes 524 400 ∷ two_slopes 525 400 ∷ two_slopes 200 400 ∷ two_slopes 200 401
    ∷ two_spans 337 160 ∷ two_spans 337 161 ∷ two_spans 338 161 ∷ [])
    ≡ replicate 9 0
unfolding first_of shape_refusal slopes_fields valleys_fields steep_valleys slope_of
pairs_accepted = refl

-- from 1.0027 to 0, in heavier snow from 239.02, and in the heaviest from 240; the left slope of kind 3, and the right one, which its guard
-- holds at 300.8; 250 quarter millimetres behind a ridge
abbrev read_computed : List (List ℕ)
read_computed =
    read (site 376 100 200) 1 0 (one_slope 599) (one_slope 600)
    ∷ read (site 24898 120 300) 11 0 (one_slope 599) (one_slope 600)
    ∷ read (site 25000 120 300) 11 0 (one_slope 599) (one_slope 600)
    ∷ read (site 376 100 200) 3 0 (two_slopes 524 400) (two_slopes 525 400)
    ∷ read (site 376 100 200) 1 40000 (two_slopes 200 400) (two_slopes 200 401)
    ∷ read (site 376 100 200) 2 16250 (two_spans 337 161) (two_spans 338 161)
    ∷ []

abbrev read_stated : List (List ℕ)
read_stated =
    (2 ∷ 0 ∷ 2 ∷ [])
    ∷ (240 ∷ 0 ∷ 240 ∷ [])
    ∷ (240 ∷ 0 ∷ 240 ∷ [])
    ∷ (77 ∷ 76 ∷ 2 ∷ [])
    ∷ (301 ∷ 301 ∷ 2 ∷ [])
    ∷ (265 ∷ 263 ∷ 2 ∷ [])
    ∷ []

pub read_worked : read_computed ≡ read_stated
unfolding
    load_in_parts greatest reading_at read_in reading count count_in stretch stretch_in factor_of start_of holds load
    monopitch pitched spans_stretch spans_count multi_span multi_span_from multi_span_to own_load valley_load slope_of mu1 guarded mu2
    break_load rounded_up ceil_div sum larger
read_worked = refl

-- at 15.0° nothing slides, and at 15.1° half of the snow of a slope of 10,000 mm does
abbrev at_the_wall : ℕ → ℕ
at_the_wall pitch = load_at recommended_figures (site 1000 100 200) (below pitch) 2 0

pub slides_worked : (at_the_wall 150 ≡ 3334) × (at_the_wall 151 ≡ 4667)
unfolding
    load_in_parts greatest reading_at read_in reading count count_in stretch stretch_in factor_of start_of holds load
    abutting abutting_count abutting_drift wall_load drift_length mu_wind mu_slide mu1 guarded break_load rounded_up ceil_div sum smaller larger held_to
slides_worked = (refl, refl)

-- "No such bound covers sliding across 15.0°, which jumps"
pub jumps : ReadingsApart (tenth_cost (site 1000 100 200) 2) (at_the_wall 150) (at_the_wall 151) → ⊥
unfolding UnderParts sum load factor_of
jumps a =
    let b : ReadingsApart (tenth_cost (site 1000 100 200) 2) 3334 4667 = rw (slides_worked.0, slides_worked.1) at a in
    omega (arith, b.down)
