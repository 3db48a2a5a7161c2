-- The spans of a multi-span item, as a roof has them: the slopes of kinds 4 and 9, and the valleys of kind 9.
use Rattle.std.specs.Prelude.{ℕ, zero, suc, ◌+◌, ◌-◌, ◌*◌, min, List, slice_set}
use Rattle.figures.specs.declared.slopes.Slope.{Slope}
use Rattle.figures.specs.declared.slopes.Spans.{Spans}
use Rattle.figures.specs.declared.slopes.Valley.{Valley}
use Rattle.little_endian.specs.Numbers.{le32}
use Rattle.item_forms.specs.Forms.{slope_at}

-- behind the count "per span pitch left, pitch right (16), width left, width right (32)": the slopes of span i
abbrev pub left_slope : List ℕ → ℕ → Slope
left_slope p i = slope_at p (2 + 12 * i) (2 + 12 * i + 4)

abbrev pub right_slope : List ℕ → ℕ → Slope
right_slope p i = slope_at p (2 + 12 * i + 2) (2 + 12 * i + 8)

-- slopes with those of the first n spans at their front
unfoldable pub slopes_from : List ℕ → List Slope → ℕ → List Slope
slopes_from p old zero = old
slopes_from p old (suc n) = slice_set (slice_set (slopes_from p old n) (2 * n) (left_slope p n)) (2 * n + 1) (right_slope p n)

-- a roof has room for 16 spans: a count above that is refused by its value
abbrev pub spans_held : ℕ → ℕ
spans_held count = min count 16

-- "for each valley its depth h and length b3", 32 bits each: valley j, from 0, where the first begins at a byte
abbrev pub valley_at : List ℕ → ℕ → ℕ → Valley
valley_at p first j = record { h = le32 p (first + 8 * j); b3 = le32 p (first + 8 * j + 4) }

-- valleys with the first n of these at their front
unfoldable pub valleys_from : List ℕ → ℕ → List Valley → ℕ → List Valley
valleys_from p first old zero = old
valleys_from p first old (suc n) = slice_set (valleys_from p first old n) n (valley_at p first n)

-- those of kind 9: the slopes as in kind 4, and the valleys between them, which begin behind kind 4's bytes
abbrev pub drifted_from : List ℕ → Spans → ℕ → Spans
drifted_from p old count =
    record {
      slopes = slopes_from p old.slopes (spans_held count);
      valleys = valleys_from p (2 + 12 * count) old.valleys (spans_held count - 1);
    }
