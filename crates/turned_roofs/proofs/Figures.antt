-- Roofs turned round and loads read from both ends, worked by hand with exact fractions. Ce = Ct = 100.
use Prim.Native.Nat.{ℕ, ◌-◌}
use mathlib.Core.Bool.{false}
use mathlib.Core.List.{List, [], ◌∷◌, ◌++◌}
use mathlib.Core.Path.{◌≡◌, refl}
use lib.ListN.{replicate}
use Rattle.std.specs.Prelude.{None}
use Rattle.figures.specs.National.{recommended_figures}
use Rattle.figures.specs.RoofRules.{kind_of, roof_of}
use Rattle.figures.specs.Spans.{flat, level, no_spans, slope_of}
use Rattle.figures.specs.declared.site.Site.{Site}
use Rattle.figures.specs.declared.slopes.Slope.{Slope}
use Rattle.figures.specs.declared.slopes.GuardedSlope.{GuardedSlope}
use Rattle.figures.specs.declared.roof.Shape.TheVariants.{Pitched, MultiSpan, Cylindrical, Projection}
use Rattle.figures.specs.declared.roof.Roof.{Roof}
use Rattle.rounding.specs.Fraction.{sum}
use Rattle.rounding.specs.Limit.{smaller, larger, held_to}
use Rattle.rounding.specs.Load.{break_load}
use Rattle.rounding.specs.Ramp.{reading}
use Rattle.rounding.specs.Up.{ceil_div, rounded_up}
use Rattle.standard.specs.Arrangements.{factor_of, count_in, stretch_in, end_in, count, stretch, end_of, load_in_parts, load_at}
use Rattle.standard.specs.Coefficients.{mu1, guarded, mu2, mu3, drift_length, mu_projection}
use Rattle.standard.specs.Cylindrical.{loaded_width, arch_drift, peak_load, half_load, cylindrical, cylindrical_count}
use Rattle.standard.specs.MultiSpan.{own_load, valley_load, multi_span_from, multi_span_to, multi_span, widths}
use Rattle.standard.specs.Pitched.{pitched}
use Rattle.standard.specs.Projection.{projection_load, projection_row, projection, projection_count}
use Rattle.standard.specs.Stretch.{load, read_in, start_of, holds, reading_at, greatest}
use Rattle.standard.specs.ValleyDrift.{spans_stretch, spans_count}
use Rattle.turned_roofs.specs.Turned.{row_reversed, spans_reversed, mirrored, turned, exchanged, turned_code}

abbrev sloping : ℕ → ℕ → Slope
sloping pitch width = record { pitch = pitch; width = width }

abbrev with_guard : Slope → ℕ → GuardedSlope
with_guard slope guard = record { slope = slope; guard = guard }

abbrev two_spans_of : List Slope → Roof
two_spans_of slopes = roof_of (MultiSpan 2 false) (record { slopes = slopes ++ replicate 28 flat; valleys = replicate 15 level })

abbrev pitched_roof : Roof
pitched_roof = roof_of (Pitched (with_guard (sloping 200 4000) 0) (with_guard (sloping 400 6000) 1)) no_spans

abbrev two_spans : Roof
two_spans = two_spans_of (sloping 400 4000 ∷ sloping 200 5000 ∷ sloping 100 6000 ∷ sloping 350 7000 ∷ [])

abbrev projection_roof : Roof
projection_roof = roof_of (Projection (record { h = 900; left = 3000; right = 8000 })) no_spans

abbrev arch : Roof
arch = roof_of (Cylindrical (record { rise = 1000; span = 8000 })) no_spans

-- kinds 3, 4 and 7; an arch is as it is
pub turned_worked :
    turned pitched_roof ∷ turned two_spans ∷ turned projection_roof ∷ turned arch ∷ []
    ≡ roof_of (Pitched (with_guard (sloping 400 6000) 1) (with_guard (sloping 200 4000) 0)) no_spans
    ∷ two_spans_of (sloping 350 7000 ∷ sloping 100 6000 ∷ sloping 200 5000 ∷ sloping 400 4000 ∷ [])
    ∷ roof_of (Projection (record { h = 900; left = 8000; right = 3000 })) no_spans
    ∷ arch
    ∷ []
unfolding turned mirrored spans_reversed row_reversed
turned_worked = refl

abbrev site : ℕ → Site
site sk = record { sk = sk; ce = 100; ct = 100; cesl = 200; situation = 1; altitude = 500; day = None }

-- the load read at a station, and on the turned roof at the end less that station
abbrev both_ends : ℕ → Roof → ℕ → ℕ → List ℕ
both_ends sk roof code p =
    load_at recommended_figures (site sk) roof code p
    ∷ load_at recommended_figures (site sk) (turned roof) (turned_code (kind_of roof.shape) code) (end_of roof - p)
    ∷ []

abbrev read_computed : List ℕ
read_computed =
    both_ends 1500 pitched_roof 2 0 ++ both_ends 1500 pitched_roof 2 40000 ++ both_ends 1500 pitched_roof 12 0
    ++ both_ends 1000 two_spans 2 35001 ++ both_ends 1000 projection_roof 2 1001

pub read_worked : read_computed ≡ 600 ∷ 600 ∷ 1200 ∷ 1200 ∷ 1200 ∷ 1200 ∷ 1181 ∷ 1181 ∷ 1251 ∷ 1251 ∷ []
unfolding
    load_in_parts greatest reading_at read_in reading count count_in stretch stretch_in end_of end_in widths factor_of start_of holds load
    pitched spans_stretch spans_count multi_span multi_span_from multi_span_to own_load valley_load slope_of
    projection projection_count projection_row projection_load mu1 guarded mu2 drift_length mu_projection
    break_load rounded_up ceil_div sum smaller larger held_to
    turned mirrored spans_reversed row_reversed turned_code exchanged
read_worked = refl

-- "their drift favours one half": the peak in the left half, and that in the right one
pub arch_worked : load_at recommended_figures (site 1000) arch 2 8000 ∷ load_at recommended_figures (site 1000) arch 2 24000 ∷ [] ≡ 725 ∷ 1450 ∷ []
unfolding
    load_in_parts greatest reading_at read_in reading count count_in stretch stretch_in factor_of start_of holds load
    cylindrical cylindrical_count arch_drift peak_load half_load loaded_width mu3 break_load rounded_up ceil_div sum smaller
arch_worked = refl
