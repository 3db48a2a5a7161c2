-- Kind 9, B2: kind 4 with an exceptional drift in each valley. Valley v, from 0 at the left, lies between slopes 2v + 1 and 2v + 2.
use Rattle.std.specs.Prelude.{ℕ, ◌+◌, ◌-◌, ◌*◌, Bool, cond, not, ◌||◌, eqb}
use Rattle.figures.specs.Ranges.{within}
use Rattle.figures.specs.Spans.{slope_of, valley_of}
use Rattle.figures.specs.declared.slopes.Spans.{Spans}
use Rattle.rounding.specs.Fraction.{Fraction}
use Rattle.standard.specs.Codes.{names_drift, drift_named}
use Rattle.standard.specs.Drift.{peak, drift_row}
use Rattle.standard.specs.MultiSpan.{multi_span, widths}
use Rattle.standard.specs.Stretch.{Stretch}
use Rattle.standard.specs.declared.Lengths.{Lengths}

-- "The two ls are the slope widths": ls1 left of the valley, ls2 right of it
abbrev pub left_length : Spans → ℕ → ℕ
left_length spans v = (slope_of spans (2 * v + 1)).width

abbrev pub right_length : Spans → ℕ → ℕ
right_length spans v = (slope_of spans (2 * v + 2)).width

-- "The empty stretch on each side is one segment": the widths up to the ridge before the valley, and from the ridge after it on
abbrev pub valley_lengths : Spans → ℕ → ℕ → Lengths
valley_lengths spans count v =
    record {
      before = widths spans (2 * v + 1);
      up = left_length spans v;
      down = right_length spans v;
      after = widths spans (2 * count) - widths spans (2 * v + 3);
    }

-- the load at the valley
unfoldable pub valley_peak : ℕ → Spans → ℕ → Fraction
valley_peak sk spans v = peak 5 (valley_of spans v).h (valley_of spans v).b3 (left_length spans v + right_length spans v) sk

unfoldable pub valley_drift : ℕ → Spans → ℕ → ℕ → ℕ → Stretch
valley_drift sk spans count v i = drift_row (valley_lengths spans count v) (valley_peak sk spans v) (valley_peak sk spans v) i

-- a code that names a valley has its drift, any other the arrangement of kind 4
unfoldable pub spans_stretch : ℕ → ℕ → Spans → ℕ → ℕ → ℕ → Stretch
spans_stretch factor sk spans count code i =
    cond (names_drift (count - 1) code) (valley_drift sk spans count (drift_named code) i) (multi_span factor sk spans count (eqb code 1) i)

unfoldable pub spans_count : ℕ → ℕ → ℕ
spans_count count code = cond (names_drift (count - 1) code) 4 (2 * count)

unfoldable pub spans_ramped : ℕ → ℕ → ℕ → Bool
spans_ramped count code i = cond (names_drift (count - 1) code) (within 1 2 i) (not (eqb code 1 || eqb i 0 || eqb (i + 1) (2 * count)))
