use mathlib.Core.Path.{◌∙◌}
use native.Mathlib.Omega.{arith}
use native.Mathlib.Nat.{mul-le-mul}
use Rattle.rounding.proofs.Rounding.{up_whole}
use Rattle.ground_loads.proofs.load.linear_load.Goals as goal

pub overflow_mul-base : goal.overflow_mul-base
overflow_mul-base c = omega (arith, mul-le-mul c.requires.0 c.requires.1.high)

pub overflow_add-base : goal.overflow_add-base
overflow_add-base c = omega (arith, mul-le-mul c.requires.0 c.requires.1.high)

pub returns : goal.returns
returns c = c.ceil_div.ensures ∙ up_whole _ _
