-- What the row of a drift is asked for: a stretch that has a length, on a roof no longer than two widths.
use Rattle.std.specs.Prelude.{ℕ, ◌≤◌, ◌<◌, ◌≡◌}
use Rattle.standard.specs.Drift.{together}
use Rattle.standard.specs.declared.Lengths.{Lengths}

-- stretch j of a row has a length
pub record Present (l : Lengths) (j : ℕ) : Type 0 where
  pub first : j ≡ 0 → 0 < l.before
  pub second : j ≡ 1 → 0 < l.up
  pub last : 2 < j → 0 < l.after

pub record RowIn (l : Lengths) (j : ℕ) : Type 0 where
  pub short : together l ≤ 200000
  pub down : 0 < l.down
  pub present : Present l j
