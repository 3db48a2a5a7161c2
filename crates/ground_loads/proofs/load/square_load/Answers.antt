use mathlib.Core.Path.{◌∙◌}
use native.Mathlib.Omega.{arith}
use native.Mathlib.Nat.{mul-le-mul}
use Rattle.ground_loads.proofs.Rows.{squares}
use Rattle.rounding.proofs.Rounding.{up_whole}
use Rattle.ground_loads.proofs.load.square_load.Goals as goal

pub overflow_mul-square : goal.overflow_mul-square
overflow_mul-square c = omega (arith, mul-le-mul c.requires.1.high c.requires.1.high)

pub overflow_mul-altitude : goal.overflow_mul-altitude
overflow_mul-altitude c = omega (arith, mul-le-mul c.requires.2 c.requires.2)

pub overflow_add-square : goal.overflow_add-square
overflow_add-square c = omega (arith, squares c.requires.1.high c.requires.2)

pub overflow_mul-base : goal.overflow_mul-base
overflow_mul-base c = omega (arith, mul-le-mul c.requires.0 (squares c.requires.1.high c.requires.2))

pub returns : goal.returns
returns c = c.ceil_div.ensures ∙ up_whole _ _
