-- A stretch as code has it: with the two break loads of its uncut ramp in tenths, their parts rounded up.
use Rattle.std.specs.Prelude.{ℕ, ◌+◌, ◌≤◌}
use Rattle.rounding.specs.Load.{break_load}
use Rattle.rounding.specs.Ramp.{reading}
use Rattle.standard.specs.Stretch.{Stretch}
use Rattle.standard.specs.Units.{parts, largest_position, largest_break}

-- the part's length, how far into the uncut ramp it begins, the whole length of that, and its two break loads
pub record RoundedStretch : Type 0 where
  pub extent : ℕ
  pub skip : ℕ
  pub full : ℕ
  pub from : ℕ
  pub to : ℕ

unfoldable pub ramp_of : Stretch → RoundedStretch
ramp_of s =
    record { extent = s.extent; skip = s.skip; full = s.full; from = break_load parts s.from; to = break_load parts s.to }

-- the reading x into it, in N/m²
unfoldable pub read_ramp : RoundedStretch → ℕ → ℕ
read_ramp r x = reading parts r.from r.to r.full (r.skip + x)

-- the bounds that every ramp keeps
pub record RampIn (r : RoundedStretch) : Type 0 where
  pub some : 1 ≤ r.extent
  pub inside : r.skip + r.extent ≤ r.full
  pub full : r.full ≤ largest_position
  pub from : r.from ≤ largest_break
  pub to : r.to ≤ largest_break
