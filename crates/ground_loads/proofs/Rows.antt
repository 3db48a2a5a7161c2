-- Table C.1: every row is in its bounds, its load is the smallest whole number not below its expression, and never falls as the
-- altitude rises.
use Prim.Native.Nat.{ℕ, zero, suc, ◌+◌, ◌*◌, ◌≤◌, ◌<◌}
use mathlib.Core.Bool.{Bool}
use mathlib.Core.Path.{◌≡◌, sym}
use lib.Dec.{T, leb, leb→le}
use native.Mathlib.Nat.{mul-le-mul, mul-le-mul_left, mul-le-mul_right, mul-pos}
use native.Mathlib.Omega.{arith}
use Rattle.figures.specs.Bounds.{Within}
use Rattle.rounding.specs.Fraction.{Below}
use Rattle.rounding.specs.Up.{rounded_up, Smallest}
use Rattle.rounding.proofs.Rounding.{up_smallest, up_mono}
use Rattle.rounding.proofs.Tested.{both, both_left, both_right, every_at}
use Rattle.ground_loads.specs.Map.{RowIn, rows, row_of, zone_load, by_form, expression, ground_load}
use Rattle.ground_loads.specs.declared.table.Form.{Form}
use Rattle.ground_loads.specs.declared.table.Form.TheVariants.{Square, Linear}
use Rattle.ground_loads.specs.declared.table.Row.{Row}

-- one test of a row
sound : Row → Bool
sound r =
    both (leb r.factor 1000)
    (both (leb r.plus 1000)
    (both (leb r.minus r.factor)
    (both (leb 1 r.divisor) (leb r.divisor 1000))))

means : (r : Row) → T (sound r) → RowIn r
unfolding sound
means r t =
    let a = both_right (leb r.factor 1000) _ t in
    let b = both_right (leb r.plus 1000) _ a in
    let c = both_right (leb r.minus r.factor) _ b in
    record {
      factor = leb→le _ _ (both_left (leb r.factor 1000) _ t);
      plus = leb→le _ _ (both_left (leb r.plus 1000) _ a);
      minus = leb→le _ _ (both_left (leb r.minus r.factor) _ b);
      divisor =
          record {
            low = leb→le _ _ (both_left (leb 1 r.divisor) (leb r.divisor 1000) c);
            high = leb→le _ _ (both_right (leb 1 r.divisor) (leb r.divisor 1000) c);
          };
    }

-- the test passes at every row of the table
tested : (i : ℕ) → i < 8 → RowIn (row_of (suc i))
unfolding row_of rows sound
tested i h = means (row_of (suc i)) (every_at (λ (k : ℕ). sound (row_of (suc k))) 8 tt i h)

pub row_in : (region : ℕ) → Within 1 8 region → RowIn (row_of region)
row_in zero h = absurd (omega (arith, h.low))
row_in (suc i) h = tested i (omega (arith, h.high))

positive : (f : Form) (base divisor altitude : ℕ) → 1 ≤ divisor → 0 < (by_form f base divisor altitude).den
positive Square base divisor altitude h = mul-pos h h
positive Linear base divisor altitude h = h

-- the size of the squares in a load
pub squares : {d a : ℕ} → d ≤ 1000 → a ≤ 1500 → d * d + a * a ≤ 3250000
squares h k = omega (arith, mul-le-mul h h, mul-le-mul k k)

module _ (region zone : ℕ) (h : Within 1 8 region) where
  -- nothing is lost where a coefficient is taken off: the zone's load is factor × zone + plus − minus
  pub zone_whole : 1 ≤ zone → zone_load (row_of region) zone + (row_of region).minus ≡ (row_of region).factor * zone + (row_of region).plus
  unfolding zone_load
  zone_whole k = let b = row_in region h in omega (arith, mul-le-mul_left (row_of region).factor k, b.minus)

  -- the load is the smallest whole number not below the row's expression
  pub load_smallest : (altitude : ℕ) → Smallest (expression (row_of region) zone altitude) (ground_load region zone altitude)
  unfolding ground_load expression
  load_smallest altitude =
      let r = row_of region in
      up_smallest _ (positive r.form (zone_load r zone) r.divisor altitude (row_in region h).divisor.low)

rises : (f : Form) (base divisor a b : ℕ) → a ≤ b → Below (by_form f base divisor a) (by_form f base divisor b)
unfolding Below
rises Square base divisor a b p =
    mul-le-mul_right (divisor * divisor) (mul-le-mul_left base (omega (arith, mul-le-mul p p)))
rises Linear base divisor a b p = mul-le-mul_right divisor (omega arith)

-- "For one region and zone it must never fall as the altitude rises"
pub load_rises : (region zone a b : ℕ) → Within 1 8 region → a ≤ b → ground_load region zone a ≤ ground_load region zone b
unfolding ground_load expression
load_rises region zone a b h p =
    let r = row_of region in
    let d = (row_in region h).divisor.low in
    up_mono 1 _ _ (positive r.form (zone_load r zone) r.divisor a d) (positive r.form (zone_load r zone) r.divisor b d)
    (rises r.form (zone_load r zone) r.divisor a b p)

-- the load by a row in its form
pub load_by_lem :
    (zone altitude base : ℕ) (r : Row) (f : Form) → r.form ≡ f → base ≡ zone_load r zone
    → rounded_up 1 (by_form f base r.divisor altitude) ≡ rounded_up 1 (expression r zone altitude)
unfolding expression
load_by_lem zone altitude base r f g h = rw (sym g, h)
