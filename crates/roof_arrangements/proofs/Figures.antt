-- Figures for one segment by its index, computed: the order of the refusals, and what a slice of five numbers holds.
use Prim.Native.Nat.{ℕ}
use mathlib.Core.List.{List, [], ◌∷◌}
use mathlib.Core.Path.{◌≡◌, refl}
use Rattle.std.specs.Prelude.{None}
use Rattle.figures.specs.National.{recommended_figures}
use Rattle.figures.specs.RoofRules.{roof_of}
use Rattle.figures.specs.Spans.{no_spans}
use Rattle.figures.specs.declared.roof.Roof.{Roof}
use Rattle.figures.specs.declared.roof.Shape.TheVariants.{Pitched}
use Rattle.figures.specs.declared.site.Site.{Site}
use Rattle.figures.specs.declared.slopes.GuardedSlope.{GuardedSlope}
use Rattle.rounding.specs.Load.{break_load}
use Rattle.rounding.specs.Ramp.{reading}
use Rattle.rounding.specs.Up.{ceil_div, rounded_up}
use Rattle.standard.specs.Answers.{Answer, value, refused, after_code, segment_count_in, index_answer, segment_in, segment_slice}
use Rattle.standard.specs.Arrangements.{factor_of, count_in, stretch_in, exists, count, stretch}
use Rattle.standard.specs.Codes.{exists_in}
use Rattle.standard.specs.Coefficients.{mu1, guarded}
use Rattle.standard.specs.Pitched.{pitched}
use Rattle.standard.specs.Stretch.{load, read_in, start_of, segment}

abbrev site : Site
site = record { sk = 1000; ce = 100; ct = 100; cesl = 200; situation = 0; altitude = 500; day = None }

abbrev slope : ℕ → GuardedSlope
slope width = record { slope = record { pitch = 300; width = width }; guard = 0 }

-- two slopes of 30.0°, 5,000 and 4,000 mm wide: codes 1, 2 and 3, two segments each
abbrev roof : Roof
roof = roof_of (Pitched (slope 5000) (slope 4000)) no_spans

abbrev one : ℕ → ℕ → ℕ → Answer
one code i room = segment_in recommended_figures site roof code i room

abbrev answers_computed : List Answer
answers_computed =
    segment_count_in recommended_figures site roof 1
    ∷ segment_count_in recommended_figures site roof 11
    ∷ one 1 1 4
    -- three rules broken, then two, then one
    ∷ one 11 2 3
    ∷ one 1 2 3
    ∷ one 1 1 3
    ∷ []

abbrev answers_stated : List Answer
answers_stated = value 2 ∷ refused 13 ∷ value 4 ∷ refused 13 ∷ refused 12 ∷ refused 11 ∷ []

pub twelve_before_eleven : answers_computed ≡ answers_stated
unfolding segment_count_in segment_in after_code index_answer exists exists_in count count_in
twelve_before_eleven = refl

-- a slice of five numbers after the call with an index
abbrev five : ℕ → List ℕ
five i = segment_slice (one 1 i 5) (stretch recommended_figures site roof 1) i (6 ∷ 7 ∷ 8 ∷ 9 ∷ 5 ∷ [])

pub fifth_kept : five 0 ∷ five 1 ∷ five 2 ∷ [] ≡ (0 ∷ 20000 ∷ 800 ∷ 800 ∷ 5 ∷ []) ∷ (20000 ∷ 36000 ∷ 800 ∷ 800 ∷ 5 ∷ []) ∷ (6 ∷ 7 ∷ 8 ∷ 9 ∷ 5 ∷ []) ∷ []
unfolding
    segment_in after_code index_answer exists exists_in count count_in stretch stretch_in factor_of pitched mu1 guarded
    segment start_of read_in load reading break_load rounded_up ceil_div
fifth_kept = refl
