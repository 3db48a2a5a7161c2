-- Annex C, Table C.1: the load on the ground by climatic region, zone and altitude.
use Rattle.std.specs.Prelude.{ℕ, ◌+◌, ◌-◌, ◌*◌, ◌≤◌, List, [], ◌∷◌, get_or}
use Rattle.figures.specs.Bounds.{Within}
use Rattle.rounding.specs.Fraction.{Fraction, over}
use Rattle.rounding.specs.Up.{rounded_up}
use Rattle.ground_loads.specs.declared.table.Form.{Form}
use Rattle.ground_loads.specs.declared.table.Form.TheVariants.{Square, Linear}
use Rattle.ground_loads.specs.declared.table.Row.{Row}

abbrev pub row : ℕ → ℕ → ℕ → ℕ → Form → Row
row factor plus minus divisor form = record { factor = factor; plus = plus; minus = minus; divisor = divisor; form = form }

-- "Regions 1 to 8 are Table C.1 of source document 002 in its order"; its coefficients are in k_n/m², these in N/m²
unfoldable pub rows : List Row
rows =
    -- Alpine Region: (0.642Z + 0.009) [1 + (A/728)²]
    row 642 9 0 728 Square
    -- Central East: (0.264Z - 0.002) [1 + (A/256)²]
    ∷ row 264 0 2 256 Square
    -- Greece: (0.420Z - 0.030) [1 + (A/917)²]
    ∷ row 420 0 30 917 Square
    -- Iberian Peninsula: (0.190Z - 0.095) [1 + (A/524)²]
    ∷ row 190 0 95 524 Square
    -- Mediterranean Region: (0.498Z - 0.209) [1 + (A/452)²]
    ∷ row 498 0 209 452 Square
    -- Central West: 0.164Z - 0.082 + A/966
    ∷ row 164 0 82 966 Linear
    -- Sweden, Finland: 0.790Z + 0.375 + A/336
    ∷ row 790 375 0 336 Linear
    -- UK, Republic of Ireland: 0.140Z - 0.1 + A/501
    ∷ row 140 0 100 501 Linear
    ∷ []

-- the row of a region, counted from 1; any other number is refused before its row is asked for
unfoldable pub row_of : ℕ → Row
row_of region = get_or rows (region - 1) (row 0 0 0 0 Square)

-- the load of the zone at altitude 0
unfoldable pub zone_load : Row → ℕ → ℕ
zone_load r zone = r.factor * zone + r.plus - r.minus

-- base × (1 + (A/divisor)²), or base and A/divisor in k_n/m², which is 1,000 × A/divisor in N/m²
abbrev pub by_form : Form → ℕ → ℕ → ℕ → Fraction
by_form Square base divisor altitude = over (base * (divisor * divisor + altitude * altitude)) (divisor * divisor)
by_form Linear base divisor altitude = over (base * divisor + 1000 * altitude) divisor

-- "the row's expression", in N/m²
unfoldable pub expression : Row → ℕ → ℕ → Fraction
expression r zone altitude = by_form r.form (zone_load r zone) r.divisor altitude

-- "The load is the row's expression, rounded up to N/m²"
unfoldable pub ground_load : ℕ → ℕ → ℕ → ℕ
ground_load region zone altitude = rounded_up 1 (expression (row_of region) zone altitude)

-- a row that the loads can be taken from without overflow, and whose zones all have a load
pub record RowIn (r : Row) : Type 0 where
  pub factor : r.factor ≤ 1000
  pub plus : r.plus ≤ 1000
  pub minus : r.minus ≤ r.factor
  pub divisor : Within 1 1000 r.divisor

-- a place on the map whose load the table has
pub record MapIn (r z a : ℕ) : Type 0 where
  pub region : Within 1 8 r
  pub zone : Within 1 5 z
  pub altitude : a ≤ 1500
