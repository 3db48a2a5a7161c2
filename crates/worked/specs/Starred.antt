-- The figures that document 01 marks with a star, as one table with one claim, computed from the definitions; "document 01's figures
-- stay" (document 02, A4), so they are the same where loads are worked in tenths.
-- Ce = Ct = 100, sk = 1,000 unless said.
use Rattle.std.specs.Prelude.{ℕ, false, ◌≡◌, refl, List, [], ◌∷◌, ◌++◌, replicate, None}
use Rattle.figures.specs.RoofRules.{roof_of, slopes_fields, steep_valleys, shape_refusal, roof_refusal}
use Rattle.figures.specs.Rules.{first_of}
use Rattle.figures.specs.Spans.{flat, level, no_spans, slope_of}
use Rattle.figures.specs.declared.site.Site.{Site}
use Rattle.figures.specs.declared.slopes.Slope.{Slope}
use Rattle.figures.specs.declared.slopes.GuardedSlope.{GuardedSlope}
use Rattle.figures.specs.declared.roof.Shape.TheVariants.{Monopitch, Pitched, MultiSpan, Cylindrical, Abutting}
use Rattle.figures.specs.declared.roof.Roof.{Roof}
use Rattle.rounding.specs.Fraction.{sum}
use Rattle.rounding.specs.Limit.{smaller, larger, held_to}
use Rattle.rounding.specs.Load.{break_load}
use Rattle.rounding.specs.Ramp.{reading}
use Rattle.rounding.specs.Up.{ceil_div, rounded_up}
use Rattle.standard.specs.Abutting.{wall_load, abutting_drift, abutting, abutting_count}
use Rattle.standard.specs.Arrangements.{factor_of, count_in, stretch_in, count, stretch, arrangement_in_parts, arrangement, load_in_parts, load_at}
use Rattle.figures.specs.National.{recommended_figures}
use Rattle.standard.specs.Coefficients.{mu1, guarded, mu2, mu3, drift_length, mu_wind, mu_slide}
use Rattle.standard.specs.Cylindrical.{first_from, wide_enough, loaded_width, arch_even, arch_drift, peak_load, half_load, cylindrical, cylindrical_count}
use Rattle.standard.specs.Forces.{overhang_rule, overhang_force}
use Rattle.standard.specs.Monopitch.{monopitch}
use Rattle.standard.specs.MultiSpan.{own_load, valley_load, multi_span_from, multi_span_to, multi_span}
use Rattle.standard.specs.Pitched.{pitched}
use Rattle.standard.specs.Stretch.{load, read_in, start_of, segment, segments, lists_joined, holds, reading_at, greatest}
use Rattle.standard.specs.ValleyDrift.{spans_stretch, spans_count}

abbrev pub site_of : ℕ → Site
site_of sk = record { sk = sk; ce = 100; ct = 100; cesl = 200; situation = 0; altitude = 500; day = None }

abbrev pub slope_of_pitch : ℕ → ℕ → Slope
slope_of_pitch pitch width = record { pitch = pitch; width = width }

abbrev pub guarded_slope : ℕ → ℕ → ℕ → GuardedSlope
guarded_slope pitch width guard = record { slope = slope_of_pitch pitch width; guard = guard }

-- two spans whose slopes have these pitches, each 4,000 wide
abbrev pub two_spans : ℕ → ℕ → ℕ → ℕ → Roof
two_spans a b c d =
    roof_of (MultiSpan 2 false)
    (record {
      slopes = (slope_of_pitch a 4000 ∷ slope_of_pitch b 4000 ∷ slope_of_pitch c 4000 ∷ slope_of_pitch d 4000 ∷ []) ++ replicate 28 flat;
      valleys = replicate 15 level;
    })

abbrev pub monopitch_roof : ℕ → ℕ → Roof
monopitch_roof pitch guard = roof_of (Monopitch (guarded_slope pitch 5000 guard)) no_spans

abbrev pub pitched_roof : Roof
pitched_roof = roof_of (Pitched (guarded_slope 200 4000 0) (guarded_slope 400 6000 0)) no_spans

abbrev pub arch_roof : ℕ → ℕ → Roof
arch_roof rise span = roof_of (Cylindrical (record { rise = rise; span = span })) no_spans

-- b1 = 10,000, h = 3,000, an upper slope 6,000 wide
abbrev pub lower_roof : ℕ → ℕ → Roof
lower_roof b2 pitch =
    roof_of (Abutting (record { b1 = 10000; b2 = b2; h = 3000; slope = guarded_slope pitch 6000 0; stepped = false })) no_spans

abbrev pub made : ℕ → Roof → ℕ → List ℕ
made sk roof code = arrangement recommended_figures (site_of sk) roof code

-- what the definitions give
unfoldable pub computed : List (List ℕ)
computed =
    -- kind 2: 30.0°, 30.1°, 59.9°, 60.0°, 60.0° with guard
    made 1000 (monopitch_roof 300 0) 1
    ∷ made 1000 (monopitch_roof 301 0) 1
    ∷ made 1000 (monopitch_roof 599 0) 1
    ∷ made 1000 (monopitch_roof 600 0) 1
    ∷ made 1000 (monopitch_roof 600 1) 1
    -- kind 3: 20°/40°, sk 1,500, codes 1, 2, 3
    ∷ made 1500 pitched_roof 1
    ∷ made 1500 pitched_roof 2
    ∷ made 1500 pitched_roof 3
    -- kind 4: the valley 20°/10°; both slopes of a valley at 60.0°
    ∷ made 1000 (two_spans 200 200 100 100) 2
    ∷ (roof_refusal (two_spans 10 600 600 10) ∷ [])
    -- kind 5: 3,000/20,000; the loaded width of 1,000/2,000, and its code 2
    ∷ made 1000 (arch_roof 3000 20000) 2
    ∷ (loaded_width 1000 2000 ∷ [])
    ∷ made 1000 (arch_roof 1000 2000) 2
    -- kind 6: 10,000/20,000/3,000, pitch 10°, and the load at position 12,000; a slope at 20°, at 15.0°; b2 = 3,000
    ∷ made 1000 (lower_roof 20000 100) 2
    ∷ (load_at recommended_figures (site_of 1000) (lower_roof 20000 100) 2 12000 ∷ [])
    ∷ made 1000 (lower_roof 20000 200) 2
    ∷ made 1000 (lower_roof 20000 150) 2
    ∷ made 1000 (lower_roof 3000 100) 2
    -- overhang: S 1000
    ∷ (overhang_force 1000 ∷ [])
    ∷ []

-- what document 01 says
unfoldable pub stated : List (List ℕ)
stated =
    (0 ∷ 20000 ∷ 800 ∷ 800 ∷ [])
    ∷ (0 ∷ 20000 ∷ 798 ∷ 798 ∷ [])
    ∷ (0 ∷ 20000 ∷ 3 ∷ 3 ∷ [])
    ∷ (0 ∷ 20000 ∷ 0 ∷ 0 ∷ [])
    ∷ (0 ∷ 20000 ∷ 800 ∷ 800 ∷ [])
    ∷ (0 ∷ 16000 ∷ 1200 ∷ 1200 ∷ 16000 ∷ 40000 ∷ 800 ∷ 800 ∷ [])
    ∷ (0 ∷ 16000 ∷ 600 ∷ 600 ∷ 16000 ∷ 40000 ∷ 800 ∷ 800 ∷ [])
    ∷ (0 ∷ 16000 ∷ 1200 ∷ 1200 ∷ 16000 ∷ 40000 ∷ 400 ∷ 400 ∷ [])
    ∷ (0 ∷ 16000 ∷ 800 ∷ 800 ∷ 16000 ∷ 32000 ∷ 800 ∷ 1200 ∷ 32000 ∷ 48000 ∷ 1200 ∷ 800 ∷ 48000 ∷ 64000 ∷ 800 ∷ 800 ∷ [])
    ∷ (9 ∷ [])
    ∷ (0 ∷ 20000 ∷ 0 ∷ 850 ∷ 20000 ∷ 40000 ∷ 850 ∷ 0 ∷ 40000 ∷ 60000 ∷ 0 ∷ 1700 ∷ 60000 ∷ 80000 ∷ 1700 ∷ 0 ∷ [])
    ∷ (1733 ∷ [])
    ∷ (0 ∷ 534 ∷ 0 ∷ 0 ∷ 534 ∷ 2267 ∷ 0 ∷ 1000 ∷ 2267 ∷ 4000 ∷ 1000 ∷ 0 ∷ 4000 ∷ 5733 ∷ 0 ∷ 2000 ∷ 5733 ∷ 7466 ∷ 2000 ∷ 0 ∷ 7466 ∷ 8000 ∷ 0 ∷ 0 ∷ [])
    ∷ (0 ∷ 24000 ∷ 4000 ∷ 800 ∷ 24000 ∷ 80000 ∷ 800 ∷ 800 ∷ [])
    ∷ (2400 ∷ [])
    ∷ (0 ∷ 24000 ∷ 4800 ∷ 800 ∷ 24000 ∷ 80000 ∷ 800 ∷ 800 ∷ [])
    ∷ (0 ∷ 24000 ∷ 4000 ∷ 800 ∷ 24000 ∷ 80000 ∷ 800 ∷ 800 ∷ [])
    ∷ (0 ∷ 12000 ∷ 2167 ∷ 1484 ∷ [])
    ∷ (334 ∷ [])
    ∷ []

-- the claim
pub starred : computed ≡ stated
unfolding computed stated
    arrangement_in_parts count count_in spans_count cylindrical_count abutting_count stretch stretch_in spans_stretch factor_of
    monopitch pitched multi_span multi_span_from multi_span_to own_load valley_load
    cylindrical arch_drift arch_even peak_load half_load loaded_width first_from wide_enough
    abutting abutting_drift wall_load
    mu1 guarded mu2 mu3 drift_length mu_wind mu_slide
    segments lists_joined segment start_of read_in load load_in_parts greatest reading_at holds
    reading break_load rounded_up ceil_div sum smaller larger held_to
    shape_refusal slope_of slopes_fields steep_valleys first_of
    overhang_force overhang_rule
starred = refl
