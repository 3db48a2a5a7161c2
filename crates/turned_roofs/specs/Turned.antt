-- Document 02, A12: a roof drawn from its other end.
use Rattle.std.specs.Prelude.{ℕ, ◌+◌, ◌-◌, ◌*◌, Bool, cond, ◌&&◌, ◌||◌, List, ◌++◌, reverse, take, drop, eqb}
use Rattle.figures.specs.Ranges.{within}
use Rattle.figures.specs.RoofRules.{kind_of, roof_of}
use Rattle.figures.specs.declared.slopes.Spans.{Spans}
use Rattle.figures.specs.declared.roof.Obstruction.{Obstruction}
use Rattle.figures.specs.declared.roof.Obstruction.TheVariants.{Parapet, SmallProjection}
use Rattle.figures.specs.declared.roof.Shape.{Shape}
use Rattle.figures.specs.declared.roof.Shape.TheVariants.{Monopitch, Pitched, MultiSpan, Cylindrical, Abutting, Projection, Obstructed}
use Rattle.figures.specs.declared.roof.Roof.{Roof}
use Rattle.standard.specs.Codes.{drift_kind, names_drift}

-- the first n of a row in reverse order; those behind them stay
unfoldable pub row_reversed : {X : Type 0} → List X → ℕ → List X
row_reversed row n = reverse (take n row) ++ drop n row

-- "spans in reverse order": span i has slopes 2i and 2i + 1, so that the slopes of n spans in reverse order are those spans in reverse order,
-- each with left and right exchanged. With them go the valleys between
unfoldable pub spans_reversed : Spans → ℕ → Spans
spans_reversed spans n = record { slopes = row_reversed spans.slopes (2 * n); valleys = row_reversed spans.valleys (n - 1) }

abbrev pub obstruction_mirrored : Obstruction → Obstruction
obstruction_mirrored (Parapet h b1 b2) = Parapet h b1 b2
obstruction_mirrored (SmallProjection h1 h2 b1 b2) = SmallProjection h2 h1 b2 b1

-- "with left and right exchanged and spans in reverse order", of every kind whose fields have a left and a right: the three that the request
-- names, and kinds 9 and 12
unfoldable pub mirrored : Shape → Spans → Roof
mirrored (Monopitch slope) spans = roof_of (Monopitch slope) spans
mirrored (Pitched left right) spans = roof_of (Pitched right left) spans
mirrored (MultiSpan count drifts) spans = roof_of (MultiSpan count drifts) (spans_reversed spans count)
mirrored (Cylindrical arch) spans = roof_of (Cylindrical arch) spans
mirrored (Abutting lower) spans = roof_of (Abutting lower) spans
mirrored (Projection p) spans = roof_of (Projection (record { h = p.h; left = p.right; right = p.left })) spans
mirrored (Obstructed by) spans = roof_of (Obstructed (obstruction_mirrored by)) spans

-- "For kinds 3, 4 and 7"
abbrev pub is_turned : ℕ → Bool
is_turned kind = within 3 4 kind || eqb kind 7

-- any other roof is as it is: "Cylindrical roofs are excepted"
unfoldable pub turned : Roof → Roof
turned roof = cond (is_turned (kind_of roof.shape)) (mirrored roof.shape roof.spans) roof

-- "codes 2 and 3 change places, 12 and 13 as well"
unfoldable pub exchanged : ℕ → ℕ
exchanged code = cond (eqb code 2) 3 (cond (eqb code 3) 2 (cond (eqb code 12) 13 (cond (eqb code 13) 12 code)))

-- "On kind 3"; every other kind keeps its codes
unfoldable pub turned_code : ℕ → ℕ → ℕ
turned_code kind code = cond (eqb kind 3) (exchanged code) code

-- the slopes of kind 3 are 1 left and 2 right; no other number names one
unfoldable pub slope_exchanged : ℕ → ℕ
slope_exchanged n = cond (eqb n 1) 2 (cond (eqb n 2) 1 n)

-- The same holds of kinds 9 and 12, which the request doesn't name
abbrev pub is_mirrored : ℕ → Bool
is_mirrored kind = is_turned kind || eqb kind 9 || eqb kind 12

-- their drifts are counted from the other end: for a roof of n drifts, code 30 + j becomes 30 + (n + 1 - j), so that the one drift of kind 12
-- keeps its code
unfoldable pub mirrored_code : ℕ → ℕ → ℕ → ℕ
mirrored_code kind drifts code =
    cond (drift_kind kind && names_drift drifts code) (61 + drifts - code) (turned_code kind code)
