-- Kind 7, 6.2: on both sides of the projection from μ2 down to 0.8 at the drift length, then 0.8. The projection takes no length.
use Rattle.std.specs.Prelude.{ℕ, zero, suc, ◌+◌, ◌-◌, ◌*◌, min, cond, ltb}
use Rattle.rounding.specs.Load.{Load}
use Rattle.standard.specs.Coefficients.{drift_length, mu_projection}
use Rattle.standard.specs.Stretch.{Stretch, even, load_alone, eight_tenths}

-- 6.2 (6.3): the drift length, held to its own range
abbrev pub projection_length : ℕ → ℕ
projection_length h = drift_length 5000 15000 h

unfoldable pub projection_load : ℕ → ℕ → ℕ → Load
projection_load factor sk h = load_alone (mu_projection h sk) factor sk

-- from left to right: even, ramp up, ramp down, even; a ramp is cut where the roof ends inside it
unfoldable pub projection_row : ℕ → Load → Load → ℕ → ℕ → ℕ → Stretch
projection_row ls peak rest left right zero = even (4 * (left - ls)) rest
projection_row ls peak rest left right (suc zero) =
    record { extent = 4 * min left ls; skip = 4 * (ls - left); full = 4 * ls; from = rest; to = peak }
projection_row ls peak rest left right (suc (suc zero)) =
    record { extent = 4 * min right ls; skip = 0; full = 4 * ls; from = peak; to = rest }
projection_row ls peak rest left right (suc (suc (suc i))) = even (4 * (right - ls)) rest

-- the row without its even ends where a width is all ramp
unfoldable pub projection : ℕ → ℕ → ℕ → ℕ → ℕ → ℕ → Stretch
projection factor sk h left right i =
    projection_row (projection_length h) (projection_load factor sk h) (eight_tenths factor sk) left right
    (cond (ltb (projection_length h) left) i (suc i))

unfoldable pub projection_count : ℕ → ℕ → ℕ → ℕ
projection_count h left right = cond (ltb (projection_length h) left) 1 0 + (2 + cond (ltb (projection_length h) right) 1 0)
