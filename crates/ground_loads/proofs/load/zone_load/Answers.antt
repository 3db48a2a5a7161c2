use mathlib.Core.Path.{refl}
use native.Mathlib.Nat.{mul-le-mul, mul-le-mul_left}
use native.Mathlib.Omega.{arith}
use Rattle.ground_loads.specs.Map.{zone_load}
use Rattle.ground_loads.proofs.load.zone_load.Goals as goal

pub overflow_mul-result : goal.overflow_mul-result
overflow_mul-result c = omega (arith, mul-le-mul c.requires.0.factor c.requires.1.high)

pub overflow_add-result : goal.overflow_add-result
overflow_add-result c = omega (arith, mul-le-mul c.requires.0.factor c.requires.1.high, c.requires.0.plus)

pub overflow_sub-result : goal.overflow_sub-result
overflow_sub-result c =
    omega (arith, mul-le-mul_left c.args.row.factor c.requires.1.low, c.requires.0.minus)

pub returns : goal.returns
unfolding zone_load
returns c =
    (refl, omega (arith, mul-le-mul c.requires.0.factor c.requires.1.high, c.requires.0.plus))
