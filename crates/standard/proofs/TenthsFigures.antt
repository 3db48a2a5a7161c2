-- Loads in whole N/m² and in tenths, worked by hand with exact fractions. Ce = Ct = 100. One table, one claim.
use Prim.Native.Nat.{ℕ}
use mathlib.Core.Bool.{false}
use mathlib.Core.List.{List, [], ◌∷◌}
use mathlib.Core.Path.{◌≡◌, refl}
use lib.ListN.{replicate}
use Rattle.std.specs.Prelude.{None}
use Rattle.figures.specs.RoofRules.{roof_of}
use Rattle.figures.specs.Spans.{flat, level, no_spans, slope_of}
use Rattle.figures.specs.declared.site.Site.{Site}
use Rattle.figures.specs.declared.slopes.Slope.{Slope}
use Rattle.figures.specs.declared.roof.Shape.TheVariants.{MultiSpan, Abutting}
use Rattle.figures.specs.declared.roof.Roof.{Roof}
use Rattle.rounding.specs.Fraction.{sum}
use Rattle.rounding.specs.Limit.{smaller, larger, held_to}
use Rattle.rounding.specs.Load.{break_load}
use Rattle.rounding.specs.Ramp.{reading}
use Rattle.rounding.specs.Up.{ceil_div, rounded_up}
use Rattle.standard.specs.Abutting.{wall_load, abutting_drift, abutting, abutting_count}
use Rattle.standard.specs.Arrangements.{factor_of, count_in, stretch_in, count, stretch, arrangement_in_parts, load_in_parts}
use Rattle.figures.specs.National.{recommended_figures}
use Rattle.standard.specs.Coefficients.{mu1, guarded, mu2, drift_length, mu_wind, mu_slide}
use Rattle.standard.specs.MultiSpan.{own_load, valley_load, multi_span_from, multi_span_to, multi_span}
use Rattle.standard.specs.Stretch.{load, read_in, start_of, segment, segments, lists_joined, holds, reading_at, greatest}
use Rattle.standard.specs.ValleyDrift.{spans_stretch, spans_count}

abbrev sloping : ℕ → ℕ → Slope
sloping pitch width = record { pitch = pitch; width = width }

abbrev site : ℕ → Site
site sk = record { sk = sk; ce = 100; ct = 100; cesl = 200; situation = 0; altitude = 500; day = None }

-- a roof below one whose slope has 20.0°
abbrev lower : ℕ → ℕ → ℕ → ℕ → Roof
lower b1 b2 h width =
    roof_of (Abutting (record { b1 = b1; b2 = b2; h = h; slope = record { slope = sloping 200 width; guard = 0 }; stepped = false })) no_spans

-- two spans of 40.0°, 20.0°, 10.0° and 35.0°
abbrev spans : Roof
spans =
    roof_of (MultiSpan 2 false)
    (record {
      slopes = sloping 400 4000 ∷ sloping 200 5000 ∷ sloping 100 6000 ∷ sloping 350 7000 ∷ replicate 28 flat;
      valleys = replicate 15 level;
    })

-- a load in whole N/m² and in tenths
abbrev read : ℕ → Roof → ℕ → List ℕ
read sk roof p = load_in_parts 1 recommended_figures (site sk) roof 2 p ∷ load_in_parts 10 recommended_figures (site sk) roof 2 p ∷ []

abbrev tenths_computed : List (List ℕ)
tenths_computed =
    -- from 287.03 + 1,555.02 at the wall to 550.4: 2 lower at position 8, where the rule gives 1841.8, the most that a load drops
    read 688 (lower 7136 20000 6003 6261) 0
    ∷ read 688 (lower 7136 20000 6003 6261) 8
    -- the same drift on a roof of 2 mm
    ∷ arrangement_in_parts 1 recommended_figures (site 688) (lower 27134 2 6003 6261) 2
    ∷ arrangement_in_parts 10 recommended_figures (site 688) (lower 27134 2 6003 6261) 2
    -- 2,000/3 + 10,000/3 at the wall come to 4,000, and to 666.7 + 3,333.4: the parts are rounded, not their sum
    ∷ read 1000 (lower 10000 10000 3000 5000) 0
    -- from 800.8 at the ridge to 1201.2 in the valley
    ∷ read 1001 spans 16000
    ∷ read 1001 spans 16001
    ∷ []

abbrev tenths_stated : List (List ℕ)
tenths_stated =
    (1844 ∷ 1843 ∷ [])
    ∷ (1844 ∷ 1842 ∷ [])
    ∷ (0 ∷ 8 ∷ 1844 ∷ 1844 ∷ [])
    ∷ (0 ∷ 8 ∷ 1843 ∷ 1842 ∷ [])
    ∷ (4001 ∷ 4001 ∷ [])
    ∷ (801 ∷ 801 ∷ [])
    ∷ (802 ∷ 801 ∷ [])
    ∷ []

pub in_tenths : tenths_computed ≡ tenths_stated
unfolding
    arrangement_in_parts load_in_parts count count_in stretch stretch_in factor_of spans_count spans_stretch abutting abutting_drift abutting_count wall_load
    multi_span multi_span_from multi_span_to own_load valley_load slope_of
    mu1 guarded mu2 drift_length mu_wind mu_slide
    segments lists_joined segment start_of read_in load greatest reading_at holds reading break_load rounded_up ceil_div sum smaller larger held_to
in_tenths = refl
