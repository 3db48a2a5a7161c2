-- Kinds 11 and 12, B4: a drift at a parapet, and at a projection up to 1 m high.
use Rattle.std.specs.Prelude.{ℕ, ◌+◌, ◌-◌, ◌*◌, min, max}
use Rattle.figures.specs.declared.roof.Obstruction.{Obstruction}
use Rattle.figures.specs.declared.roof.Obstruction.TheVariants.{Parapet, SmallProjection}
use Rattle.rounding.specs.Fraction.{Fraction, over}
use Rattle.rounding.specs.Limit.{smaller}
use Rattle.standard.specs.Drift.{peak, drift}
use Rattle.standard.specs.Stretch.{Stretch}
use Rattle.standard.specs.declared.Lengths.{Lengths}

-- B4 (4): "ls the smallest of 5h, b1 and 15,000"
unfoldable pub parapet_length : ℕ → ℕ → ℕ
parapet_length h b1 = min (5 * h) (min b1 15000)

-- B4 (4): "The load is the smallest of 2h, 2 × b × sk/ls and 8 × sk, where b is the larger width"
unfoldable pub parapet_peak : ℕ → ℕ → ℕ → ℕ → Fraction
parapet_peak h b1 b2 sk = peak 8 h (max b1 b2) (parapet_length h b1) sk

-- B4 (2) d): "over the smaller of 5h and the width"
unfoldable pub side_length : ℕ → ℕ → ℕ
side_length h width = min (5 * h) width

-- B4 (2) c): "each side has the smaller of 2h and 5 × sk at the projection"
unfoldable pub side_peak : ℕ → ℕ → Fraction
side_peak h sk = smaller (over (2 * h) 1) (over (5 * sk) 1)

-- a parapet's drift is "falling to 0 over ls from the left end", that of a projection on each side "falling to 0 away from it"; "The rest
-- of either roof is bare"
unfoldable pub obstruction_lengths : Obstruction → Lengths
obstruction_lengths (Parapet h b1 b2) = record { before = 0; up = 0; down = parapet_length h b1; after = b1 - parapet_length h b1 }
obstruction_lengths (SmallProjection h1 h2 b1 b2) =
    record { before = b1 - side_length h1 b1; up = side_length h1 b1; down = side_length h2 b2; after = b2 - side_length h2 b2 }

-- the loads at the peaks, left and right; nothing lies left of a parapet
unfoldable pub left_peak : Obstruction → ℕ → Fraction
left_peak (Parapet h b1 b2) sk = over 0 1
left_peak (SmallProjection h1 h2 b1 b2) sk = side_peak h1 sk

unfoldable pub right_peak : Obstruction → ℕ → Fraction
right_peak (Parapet h b1 b2) sk = parapet_peak h b1 b2 sk
right_peak (SmallProjection h1 h2 b1 b2) sk = side_peak h2 sk

unfoldable pub obstructed : ℕ → Obstruction → ℕ → Stretch
obstructed sk by i = drift (obstruction_lengths by) (left_peak by sk) (right_peak by sk) i

-- "b1 (the roof behind it, the whole length read)"; "the projection takes no length and the roof is both widths together"
unfoldable pub obstruction_end : Obstruction → ℕ
obstruction_end (Parapet h b1 b2) = b1
obstruction_end (SmallProjection h1 h2 b1 b2) = b1 + b2
