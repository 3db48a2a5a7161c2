-- Kind 4, 5.3.4: code 1 has each slope's μ1. In code 2 the first and last slopes are even at their μ1; each inner slope runs
-- from its own μ1 at the ridge to μ2 of the mean of the valley's two pitches. No guards.
use Rattle.std.specs.Prelude.{ℕ, zero, suc, ◌+◌, ◌-◌, ◌*◌, ◌%◌, Bool, cond, ◌||◌, eqb}
use Rattle.figures.specs.Spans.{slope_of}
use Rattle.figures.specs.declared.slopes.Spans.{Spans}
use Rattle.rounding.specs.Load.{Load}
use Rattle.standard.specs.Coefficients.{mu1, valley_mu}
use Rattle.standard.specs.Stretch.{Stretch, ramp, load_alone}

-- the load of slope i's own μ1
unfoldable pub own_load : ℕ → ℕ → Spans → ℕ → Load
own_load factor sk spans i = load_alone (mu1 (slope_of spans i).pitch) factor sk

-- the load at the valley between slope i and the next
unfoldable pub valley_load : ℕ → ℕ → Spans → ℕ → Load
valley_load factor sk spans i = load_alone (valley_mu (slope_of spans i).pitch (slope_of spans (i + 1)).pitch) factor sk

-- a left slope has its valley at its left end, a right slope at its right end; the first and the last slope have none
unfoldable pub multi_span_from : ℕ → ℕ → Spans → Bool → ℕ → Load
multi_span_from factor sk spans undrifted i =
    cond (undrifted || eqb i 0 || eqb (i % 2) 1) (own_load factor sk spans i) (valley_load factor sk spans (i - 1))

unfoldable pub multi_span_to : ℕ → ℕ → Spans → ℕ → Bool → ℕ → Load
multi_span_to factor sk spans count undrifted i =
    cond (undrifted || eqb (i + 1) (2 * count) || eqb (i % 2) 0) (own_load factor sk spans i) (valley_load factor sk spans i)

unfoldable pub multi_span : ℕ → ℕ → Spans → ℕ → Bool → ℕ → Stretch
multi_span factor sk spans count undrifted i =
    ramp (4 * (slope_of spans i).width) (multi_span_from factor sk spans undrifted i) (multi_span_to factor sk spans count undrifted i)

-- the widths of the first n slopes together
unfoldable pub widths : Spans → ℕ → ℕ
widths spans zero = 0
widths spans (suc n) = widths spans n + (slope_of spans n).width
