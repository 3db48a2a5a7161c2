-- Annex B: an exceptional drift runs up to a peak and down from a peak, and the roof is bare on both sides. No Ce, Ct or Cesl plays a
-- part. Lengths and widths are in mm; a stretch has quarter millimetres.
use Rattle.std.specs.Prelude.{ℕ, zero, suc, ◌+◌, ◌*◌, Bool, cond, ltb}
use Rattle.figures.specs.Ranges.{within}
use Rattle.rounding.specs.Fraction.{Fraction, over}
use Rattle.rounding.specs.Limit.{smaller}
use Rattle.rounding.specs.Load.{alone}
use Rattle.standard.specs.Stretch.{Stretch, even, ramp, no_load}
use Rattle.standard.specs.declared.Lengths.{Lengths}

-- the length of the roof
abbrev pub together : Lengths → ℕ
together l = l.before + l.up + l.down + l.after

-- B2 (2): "the smallest of 2h, 2 × b3 × sk/(ls1 + ls2) and 5 × sk"; B4 (4): "the smallest of 2h, 2 × b × sk/ls and 8 × sk"
unfoldable pub peak : ℕ → ℕ → ℕ → ℕ → ℕ → Fraction
peak times h b ls sk = smaller (over (2 * h) 1) (smaller (over (2 * b * sk) ls) (over (times * sk) 1))

-- the full row, "falling to 0 at both ridges, with no snow elsewhere": each ramp has its peak
unfoldable pub drift_row : Lengths → Fraction → Fraction → ℕ → Stretch
drift_row l left right zero = even (4 * l.before) no_load
drift_row l left right (suc zero) = ramp (4 * l.up) no_load (alone left)
drift_row l left right (suc (suc zero)) = ramp (4 * l.down) (alone right) no_load
drift_row l left right (suc (suc (suc i))) = even (4 * l.after) no_load

-- "No segment has length zero": where stretch i stands in the full row, whose first stretches may be missing
unfoldable pub drift_index : Lengths → ℕ → ℕ
drift_index l i = cond (ltb 0 l.before) i (cond (ltb 0 l.up) (suc i) (suc (suc i)))

unfoldable pub drift : Lengths → Fraction → Fraction → ℕ → Stretch
drift l left right i = drift_row l left right (drift_index l i)

unfoldable pub drift_count : Lengths → ℕ
drift_count l = cond (ltb 0 l.before) 1 0 + (cond (ltb 0 l.up) 1 0 + (1 + cond (ltb 0 l.after) 1 0))

-- the two ramps; every other stretch is even
abbrev pub drift_ramped : Lengths → ℕ → Bool
drift_ramped l i = within 1 2 (drift_index l i)
