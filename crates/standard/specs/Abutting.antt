-- Kind 6, 5.3.6: the roof is b2 long, with the wall at its left end. Code 1: 0.8. Code 2: from μs + μw at the wall to 0.8 at the
-- drift length, then 0.8.
use Rattle.std.specs.Prelude.{ℕ, zero, suc, ◌-◌, ◌*◌, min, Bool, true, false, cond, ltb}
use Rattle.figures.specs.declared.slopes.Slope.{Slope}
use Rattle.rounding.specs.Load.{Load}
use Rattle.standard.specs.Coefficients.{drift_length, mu_wind, mu_slide}
use Rattle.standard.specs.Stretch.{Stretch, even, load, eight_tenths}
use Rattle.figures.specs.declared.national.National.{National}

-- the drift length, held to the national range
abbrev pub abutting_length : National → ℕ → ℕ
abutting_length national h = drift_length national.short national.long h

-- "with μs the two parts are each rounded up and added"
unfoldable pub wall_load : National → ℕ → ℕ → ℕ → ℕ → ℕ → Slope → ℕ → Load
wall_load national factor sk b1 b2 h slope guard =
    record {
      first = load (mu_wind national b1 b2 h sk) factor sk;
      second = load (mu_slide slope guard (abutting_length national h)) factor sk;
    }

-- the ramp, cut where the roof ends inside it, and what is left
unfoldable pub abutting_drift : ℕ → Load → Load → ℕ → ℕ → Stretch
abutting_drift ls wall rest b2 zero = record { extent = 4 * min b2 ls; skip = 0; full = 4 * ls; from = wall; to = rest }
abutting_drift ls wall rest b2 (suc i) = even (4 * (b2 - ls)) rest

unfoldable pub abutting : National → ℕ → ℕ → ℕ → ℕ → ℕ → Slope → ℕ → Bool → ℕ → Stretch
abutting national factor sk b1 b2 h slope guard true i = even (4 * b2) (eight_tenths factor sk)
abutting national factor sk b1 b2 h slope guard false i =
    abutting_drift (abutting_length national h) (wall_load national factor sk b1 b2 h slope guard) (eight_tenths factor sk) b2 i

unfoldable pub abutting_count : National → ℕ → ℕ → Bool → ℕ
abutting_count national b2 h true = 1
abutting_count national b2 h false = cond (ltb (abutting_length national h) b2) 2 1
