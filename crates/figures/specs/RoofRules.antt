-- The value rules on a roof, refusals 8, 9 and 10, in document 01's order: one definition a kind.
use Rattle.std.specs.Prelude.{ℕ, zero, suc, ◌+◌, ◌-◌, ◌*◌, Bool, true, false, cond, not, ◌&&◌, ◌||◌, leb, ltb, eqb}
use Rattle.figures.specs.Ranges.{within}
use Rattle.figures.specs.Rules.{refused_if, first_of}
use Rattle.figures.specs.Spans.{slope_of, valley_of}
use Rattle.figures.specs.declared.slopes.Slope.{Slope}
use Rattle.figures.specs.declared.slopes.GuardedSlope.{GuardedSlope}
use Rattle.figures.specs.declared.slopes.Valley.{Valley}
use Rattle.figures.specs.declared.slopes.Spans.{Spans}
use Rattle.figures.specs.declared.roof.Arch.{Arch}
use Rattle.figures.specs.declared.roof.AbuttingRoof.{AbuttingRoof}
use Rattle.figures.specs.declared.roof.ProjectionRoof.{ProjectionRoof}
use Rattle.figures.specs.declared.roof.LowerRoof.{LowerRoof}
use Rattle.figures.specs.declared.roof.Obstruction.{Obstruction}
use Rattle.figures.specs.declared.roof.Obstruction.TheVariants.{Parapet, SmallProjection}
use Rattle.figures.specs.declared.roof.Shape.{Shape}
use Rattle.figures.specs.declared.roof.Shape.TheVariants.{Monopitch, Pitched, MultiSpan, Cylindrical, Abutting, Projection, Obstructed}
use Rattle.figures.specs.declared.roof.Roof.{Roof}

-- document 02, A9: "Item kind 11 is a parapet", "Item kind 12 is a projection up to 1 m high"
abbrev pub obstruction_kind : Obstruction → ℕ
obstruction_kind (Parapet h b1 b2) = 11
obstruction_kind (SmallProjection h1 h2 b1 b2) = 12

-- the kind of a shape, by the documents' number
abbrev pub kind_of : Shape → ℕ
kind_of (Monopitch slope) = 2
kind_of (Pitched left right) = 3
kind_of (MultiSpan count drifts) = cond drifts 9 4
kind_of (Cylindrical arch) = 5
kind_of (Abutting lower) = cond lower.stepped 10 6
kind_of (Projection p) = 7
kind_of (Obstructed by) = obstruction_kind by

-- how many exceptional drifts of Annex B a shape has room for: one in each valley of a multi-span roof, one at an obstruction; which of
-- them exist is told by the kind and the situation
abbrev pub drifts_of : Shape → ℕ
drifts_of (Monopitch slope) = 0
drifts_of (Pitched left right) = 0
drifts_of (MultiSpan count drifts) = count - 1
drifts_of (Cylindrical arch) = 0
drifts_of (Abutting lower) = 0
drifts_of (Projection p) = 0
drifts_of (Obstructed by) = 1

-- a roof of a shape, with the spans of a multi-span roof
abbrev pub roof_of : Shape → Spans → Roof
roof_of shape spans = record { shape = shape; spans = spans }

-- pitch 0..800; widths are plan widths, 1..100,000
abbrev pub slope_fields : Slope → Bool
slope_fields s = leb s.pitch 800 && within 1 100000 s.width

-- a slope's fields, and its guard 0 or 1
abbrev pub guarded_fields : GuardedSlope → Bool
guarded_fields s = slope_fields s.slope && leb s.guard 1

-- each field of the first n slopes in its range
unfoldable pub slopes_fields : Spans → ℕ → Bool
slopes_fields spans zero = true
slopes_fields spans (suc n) = slopes_fields spans n && slope_fields (slope_of spans n)

-- "its depth h and length b3 (32 bits each, 1..30,000 and 1..100,000)"
abbrev pub valley_fields : Valley → Bool
valley_fields v = within 1 30000 v.h && within 1 100000 v.b3

-- each field of the first n valleys in its range
unfoldable pub valleys_fields : Spans → ℕ → Bool
valleys_fields spans zero = true
valleys_fields spans (suc n) = valleys_fields spans n && valley_fields (valley_of spans n)

-- the fields of n spans: of their slopes, and in kind 9 of the valleys between them
abbrev pub span_fields : Bool → Spans → ℕ → Bool
span_fields drifts spans n = slopes_fields spans (2 * n) && (not drifts || valleys_fields spans (n - 1))

-- "at a valley of kind 4, either slope above 60.0° or both exactly 60.0°"
abbrev pub steep_valley : ℕ → ℕ → Bool
steep_valley left right = ltb 600 left || ltb 600 right || (eqb left 600 && eqb right 600)

-- the same at one of the first n valleys; valley i lies between slopes 2i + 1 and 2i + 2
unfoldable pub steep_valleys : Spans → ℕ → Bool
steep_valleys spans zero = false
steep_valleys spans (suc n) = steep_valleys spans n || steep_valley (slope_of spans (2 * n + 1)).pitch (slope_of spans (2 * n + 2)).pitch

-- "8 roof field outside its range": a guard is 0 or 1, h is 1..30,000
abbrev pub monopitch_refusal : GuardedSlope → ℕ
monopitch_refusal slope = refused_if (not (guarded_fields slope)) 8

abbrev pub pitched_refusal : GuardedSlope → GuardedSlope → ℕ
pitched_refusal left right = refused_if (not (guarded_fields left && guarded_fields right)) 8

-- 2 to 16 spans; then 9. "Numbers 8 and 9 apply as to kind 4"
abbrev pub multi_span_refusal : ℕ → Bool → Spans → ℕ
multi_span_refusal count drifts spans =
    first_of (refused_if (not (within 2 16 count && span_fields drifts spans count)) 8)
    (refused_if (steep_valleys spans (count - 1)) 9)

-- "10 twice the rise is more than the span"
abbrev pub cylindrical_refusal : Arch → ℕ
cylindrical_refusal arch =
    first_of (refused_if (not (within 1 15000 arch.rise && within 2 30000 arch.span)) 8)
    (refused_if (ltb arch.span (2 * arch.rise)) 10)

-- kind 10, document 02, A7: "As figures it carries kind 6's fields, with b1 up to 200,000"
abbrev pub widest_upper : Bool → ℕ
widest_upper stepped = cond stepped 200000 100000

abbrev pub abutting_refusal : AbuttingRoof → ℕ
abutting_refusal lower =
    refused_if (not (within 1 (widest_upper lower.stepped) lower.b1 && within 1 100000 lower.b2 && within 1 30000 lower.h && guarded_fields lower.slope)) 8

-- a height and two widths: the fields of kind 7, and of kind 11, document 02, A9: "h and the widths keep document 01's ranges"
abbrev pub projection_fields : ℕ → ℕ → ℕ → Bool
projection_fields h left right = within 1 30000 h && within 1 100000 left && within 1 100000 right

abbrev pub projection_refusal : ProjectionRoof → ℕ
projection_refusal p = refused_if (not (projection_fields p.h p.left p.right)) 8

-- kind 12: "h1 and h2 (1..1,000)"
abbrev pub small_projection_fields : ℕ → ℕ → ℕ → ℕ → Bool
small_projection_fields h1 h2 b1 b2 = within 1 1000 h1 && within 1 1000 h2 && within 1 100000 b1 && within 1 100000 b2

abbrev pub obstruction_fields : Obstruction → Bool
obstruction_fields (Parapet h b1 b2) = projection_fields h b1 b2
obstruction_fields (SmallProjection h1 h2 b1 b2) = small_projection_fields h1 h2 b1 b2

abbrev pub obstruction_refusal : Obstruction → ℕ
obstruction_refusal by = refused_if (not (obstruction_fields by)) 8

-- an item of kind 10 by itself: b2, h and "its adjacent side (8: 0 left, 1 right)"
abbrev pub lower_refusal : LowerRoof → ℕ
lower_refusal lower = refused_if (not (within 1 100000 lower.b2 && within 1 30000 lower.h && leb lower.side 1)) 8

-- the first rule that a roof breaks, 0 for none
unfoldable pub shape_refusal : Shape → Spans → ℕ
shape_refusal (Monopitch slope) spans = monopitch_refusal slope
shape_refusal (Pitched left right) spans = pitched_refusal left right
shape_refusal (MultiSpan count drifts) spans = multi_span_refusal count drifts spans
shape_refusal (Cylindrical arch) spans = cylindrical_refusal arch
shape_refusal (Abutting lower) spans = abutting_refusal lower
shape_refusal (Projection p) spans = projection_refusal p
shape_refusal (Obstructed by) spans = obstruction_refusal by

-- "a roof likewise, here 8, 9 and 10": it is accepted (document 01, words of demand 3) where this is 0
abbrev pub roof_refusal : Roof → ℕ
roof_refusal roof = shape_refusal roof.shape roof.spans
