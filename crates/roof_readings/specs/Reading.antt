-- What the call that reads a load at a station answers, and how far a load that it answers lies above the exact rule.
use Rattle.std.specs.Prelude.{ℕ, ◌-◌, ◌≤◌, cond, Result, Ok, Err}
use Rattle.figures.specs.declared.national.National.{National}
use Rattle.figures.specs.declared.refusal.Refusal.{Refusal}
use Rattle.figures.specs.declared.site.Site.{Site}
use Rattle.figures.specs.declared.roof.Roof.{Roof}
use Rattle.ramps.specs.Ramps.{RoundedStretch, read_ramp}
use Rattle.standard.specs.Arrangements.{exact_at, NearExact}
use Rattle.standard.specs.Stretch.{holds}

-- what a ramp that starts at start reads at a station, 0 where it does not hold it
unfoldable pub value_of : RoundedStretch → ℕ → ℕ → ℕ
value_of r start p = cond (holds start r.extent p) (read_ramp r (p - start)) 0

-- whatever is answered as a load lies at or above the exact rule of the national figures in use, and less than 1.2 N/m² above it
abbrev pub distance_of : National → Site → Roof → ℕ → ℕ → Result ℕ Refusal → Type 0
distance_of national site roof code p (Ok x) = NearExact x (exact_at national site roof code p)
distance_of national site roof code p (Err refusal) = Unit

-- of two loads, the second is no less; a refusal owes nothing
abbrev pub InOrder : Result ℕ Refusal → Result ℕ Refusal → Type 0
InOrder (Ok x) (Ok y) = x ≤ y
InOrder (Ok x) (Err refusal) = Unit
InOrder (Err refusal) b = Unit
