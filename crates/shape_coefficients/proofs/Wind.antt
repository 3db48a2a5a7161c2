-- How large the numerator of μw is.
use Prim.Native.Nat.{ℕ, ◌*◌, ◌≤◌}
use native.Mathlib.Nat.{mul-le-mul_right}
use native.Mathlib.Omega.{arith}
use Rattle.figures.specs.Bounds.{NationalIn}
use Rattle.figures.specs.declared.national.National.{National}
use Rattle.standard.specs.Numerators.{wind_num}

pub wind_most : (national : National) (b h sk : ℕ) → NationalIn national → wind_num national b h sk ≤ 1600 * h * sk
unfolding wind_num
wind_most national b h sk n = omega (arith, mul-le-mul_right (h * sk) n.low.high, mul-le-mul_right (h * sk) n.high.high)
