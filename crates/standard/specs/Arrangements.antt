-- Arrangements: which codes exist, how many segments each has, the stretch at an index, the roof's end, the load at a station
-- and the exact rule there. One definition a kind, dispatched here.
use Rattle.std.specs.Prelude.{ℕ, suc, ◌+◌, ◌*◌, Bool, false, cond, not, ◌&&◌, List, ltb, eqb}
use Rattle.figures.specs.Ranges.{within}
use Rattle.figures.specs.RoofRules.{kind_of, drifts_of}
use Rattle.figures.specs.declared.site.Site.{Site}
use Rattle.figures.specs.declared.slopes.Spans.{Spans}
use Rattle.figures.specs.declared.roof.Shape.{Shape}
use Rattle.figures.specs.declared.roof.Shape.TheVariants.{Monopitch, Pitched, MultiSpan, Cylindrical, Abutting, Projection, Obstructed}
use Rattle.figures.specs.declared.roof.Roof.{Roof}
use Rattle.rounding.specs.Fraction.{Fraction, Near}
use Rattle.standard.specs.Codes.{accidental, base_code, exists_in}
use Rattle.standard.specs.Monopitch.{monopitch}
use Rattle.standard.specs.Pitched.{pitched}
use Rattle.standard.specs.Drift.{drift_count, drift_ramped}
use Rattle.standard.specs.MultiSpan.{widths}
use Rattle.standard.specs.Obstruction.{obstruction_lengths, obstructed, obstruction_end}
use Rattle.standard.specs.Cylindrical.{loaded_width, cylindrical, cylindrical_count}
use Rattle.standard.specs.Abutting.{abutting, abutting_count}
use Rattle.standard.specs.Projection.{projection_length, projection, projection_count}
use Rattle.standard.specs.Stretch.{Stretch, segments, greatest, exact_greatest}
use Rattle.standard.specs.Units.{parts}
use Rattle.standard.specs.ValleyDrift.{spans_stretch, spans_count, spans_ramped}
use Rattle.figures.specs.declared.national.National.{National}

-- Cesl, which is 1 for the persistent codes, in hundredths
abbrev pub exceptional_of : Site → ℕ → ℕ
exceptional_of site code = cond (accidental code) site.cesl 100

-- Ce × Ct × Cesl in millionths
unfoldable pub factor_of : Site → ℕ → ℕ
factor_of site code = site.ce * site.ct * exceptional_of site code

-- the number of segments
unfoldable pub count_in : National → Shape → ℕ → ℕ
count_in national (Monopitch slope) code = 1
count_in national (Pitched left right) code = 2
count_in national (MultiSpan count drifts) code = spans_count count code
count_in national (Cylindrical arch) code = cylindrical_count arch.rise arch.span (eqb code 1)
count_in national (Abutting lower) code = abutting_count national lower.b2 lower.h (eqb code 1)
count_in national (Projection p) code = projection_count p.h p.left p.right
count_in national (Obstructed by) code = drift_count (obstruction_lengths by)

-- the stretch at an index
unfoldable pub stretch_in : National → Shape → Spans → ℕ → ℕ → ℕ → ℕ → Stretch
stretch_in national (Monopitch slope) spans factor sk code i = monopitch factor sk slope.slope slope.guard i
stretch_in national (Pitched left right) spans factor sk code i =
    pitched factor sk left.slope right.slope left.guard right.guard code i
stretch_in national (MultiSpan count drifts) spans factor sk code i = spans_stretch factor sk spans count code i
stretch_in national (Cylindrical arch) spans factor sk code i = cylindrical national factor sk arch.rise arch.span (eqb code 1) i
stretch_in national (Abutting lower) spans factor sk code i =
    abutting national factor sk lower.b1 lower.b2 lower.h lower.slope.slope lower.slope.guard (eqb code 1) i
stretch_in national (Projection p) spans factor sk code i = projection factor sk p.h p.left p.right i
stretch_in national (Obstructed by) spans factor sk code i = obstructed sk by i

-- which stretches are ramps; every other is even. In a row that begins with its second stretch the index is one less
unfoldable pub ramped_in : National → Shape → ℕ → ℕ → Bool
ramped_in national (Monopitch slope) code i = false
ramped_in national (Pitched left right) code i = false
ramped_in national (MultiSpan count drifts) code i = spans_ramped count code i
ramped_in national (Cylindrical arch) code i = not (eqb code 1) && within 1 4 (cond (ltb (loaded_width arch.rise arch.span) arch.span) i (suc i))
ramped_in national (Abutting lower) code i = not (eqb code 1) && eqb i 0
ramped_in national (Projection p) code i = within 1 2 (cond (ltb (projection_length p.h) p.left) i (suc i))
ramped_in national (Obstructed by) code i = drift_ramped (obstruction_lengths by) i

-- the roof's length in quarter millimetres
unfoldable pub end_in : Shape → Spans → ℕ
end_in (Monopitch slope) spans = 4 * slope.slope.width
end_in (Pitched left right) spans = 4 * (left.slope.width + right.slope.width)
end_in (MultiSpan count drifts) spans = 4 * widths spans (2 * count)
end_in (Cylindrical arch) spans = 4 * arch.span
end_in (Abutting lower) spans = 4 * lower.b2
end_in (Projection p) spans = 4 * (p.left + p.right)
end_in (Obstructed by) spans = 4 * obstruction_end by

-- "An arrangement exists where these rules give its code to the roof in the site's situation" (document 01, words of demand 3)
unfoldable pub exists : Site → Roof → ℕ → Bool
exists site roof code = exists_in (kind_of roof.shape) site.situation (drifts_of roof.shape) code

-- the same of a roof: the number of segments, the stretch at an index, the end. A station (document 01's term) is a whole number,
-- and lies on the roof from 0 to this end, both included
unfoldable pub count : National → Roof → ℕ → ℕ
count national roof code = count_in national roof.shape (base_code code)

unfoldable pub stretch : National → Site → Roof → ℕ → ℕ → Stretch
stretch national site roof code i = stretch_in national roof.shape roof.spans (factor_of site code) site.sk (base_code code) i

unfoldable pub end_of : Roof → ℕ
end_of roof = end_in roof.shape roof.spans

-- the segments of an arrangement, four numbers each, and the load read at a station, with loads worked in parts, g to the N/m²
unfoldable pub arrangement_in_parts : ℕ → National → Site → Roof → ℕ → List ℕ
arrangement_in_parts g national site roof code = segments g (stretch national site roof code) (count national roof code)

unfoldable pub load_in_parts : ℕ → National → Site → Roof → ℕ → ℕ → ℕ
load_in_parts g national site roof code p = greatest g (stretch national site roof code) p (count national roof code)

-- what is returned: worked in tenths
abbrev pub arrangement : National → Site → Roof → ℕ → List ℕ
arrangement national site roof code = arrangement_in_parts parts national site roof code

-- "The load read is the reading that the call with site, roof, arrangement and station returns"
abbrev pub load_at : National → Site → Roof → ℕ → ℕ → ℕ
load_at national site roof code p = load_in_parts parts national site roof code p

-- "By the exact rule its load at that station is meant, worked from the same figures"
unfoldable pub exact_at : National → Site → Roof → ℕ → ℕ → Fraction
exact_at national site roof code p = exact_greatest (stretch national site roof code) p (count national roof code)

-- "A reading is then less than 1.2 N/m² above the exact rule. Demand 3's distance of 3 becomes that" (document 02, A4); and never below it
abbrev pub NearExact : ℕ → Fraction → Type 0
NearExact r f = Near 10 12 r f
