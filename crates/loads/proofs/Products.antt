-- No product wraps at the sizes asked: the largest is 30,000,000 × 3,600,000 × 25,000.
use Prim.Native.Nat.{ℕ, ◌+◌, ◌*◌, ◌≤◌}
use native.Mathlib.Nat.{mul-le-mul, mul-le-mul_left, mul-le-mul_right}
use native.Mathlib.Omega.{arith}
use Rattle.loads.specs.Sizes.{GroundIn, Sized}
use Rattle.standard.specs.Units.{parts, largest_part}

pub ground : (f s : ℕ) → GroundIn f s → f * s ≤ 90000000000
ground f s g = omega (arith, mul-le-mul g.factor g.sk.high)

pub record Products (m d f s : ℕ) : Type 0 where
  pub two : m * f ≤ 108000000000000
  pub three : m * f * s ≤ 2700000000000000000
  pub most : parts * (m * f * s) ≤ largest_part * (d * 1000000)

pub products : (m d f s : ℕ) → Sized m d → GroundIn f s → Products m d f s
products m d f s h g =
    let two : m * f ≤ 108000000000000 = omega (arith, mul-le-mul h.top g.factor) in
    record {
      two = two;
      three = omega (arith, mul-le-mul two g.sk.high);
      most = omega (arith, mul-le-mul h.most (ground f s g));
    }

-- a coefficient's numerator of at most 1600 × h × sk
pub wind_small : (w h s : ℕ) → h ≤ 30000 → s ≤ 25000 → w ≤ 1600 * h * s → w ≤ 1200000000000
wind_small w h s p q r = omega (arith, mul-le-mul p q)

-- what a coefficient of at most 1600 × h × sk over 200 × h × sk comes to
pub wind_most : (w h f s : ℕ) → GroundIn f s → w ≤ 1600 * h * s → parts * (w * f) ≤ largest_part * (200 * h * 1000000)
wind_most w h f s g p = omega (arith, mul-le-mul_right f p, mul-le-mul_left h (ground f s g))

-- the squares of the rule for a loaded width
pub record Squares (r s w : ℕ) : Type 0 where
  pub chord : s * s + 4 * (r * r) ≤ 1800000000
  pub square : (s * s + 4 * (r * r)) * (s * s + 4 * (r * r)) ≤ 3240000000000000000
  pub reach : 8 * r * w ≤ 3600000000
  pub reached : 8 * r * w * (8 * r * w) ≤ 12960000000000000000

pub squares : (r s w : ℕ) → r ≤ 15000 → s ≤ 30000 → w ≤ 30000 → Squares r s w
squares r s w p q t =
    let a : s * s + 4 * (r * r) ≤ 1800000000 = omega (arith, mul-le-mul q q, mul-le-mul p p) in
    let b : 8 * r * w ≤ 3600000000 = omega (arith, mul-le-mul p t) in
    record { chord = a; square = mul-le-mul a a; reach = b; reached = mul-le-mul b b }
