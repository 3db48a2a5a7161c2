-- What working in tenths in place of whole N/m² makes of a load that is returned (document 02, A4).
use Rattle.std.specs.Prelude.{ℕ, ◌+◌, ◌≤◌}

-- "No returned load rises by the change, none drops by more than 2": a load worked in tenths, and the same worked in whole N/m²
pub record Changed (tenths whole : ℕ) : Type 0 where
  pub no_rise : tenths ≤ whole
  pub small_drop : whole ≤ tenths + 2
