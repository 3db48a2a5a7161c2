use Rattle.loads.proofs.Products.{Squares, squares}
use native.Mathlib.Omega.{arith}
use Rattle.loads.proofs.lengths.wide_enough.Goals as goal
use Rattle.loads.proofs.lengths.wide_enough.Goals.{After-from-span}

sizes : (c : After-from-span) → Squares c.from-rise.result c.from-span.result c.args.ls
sizes c = squares _ _ _ (omega (arith, c.requires.0)) (omega (arith, c.requires.1)) c.requires.2

pub overflow_mul-result : goal.overflow_mul-result
overflow_mul-result c = omega (arith, (sizes (goal.at.overflow_mul-result c).After-from-span).square)

pub overflow_mul-result-2 : goal.overflow_mul-result-2
overflow_mul-result-2 c = omega (arith, (sizes (goal.at.overflow_mul-result-2 c).After-from-span).square)

pub overflow_mul-result-3 : goal.overflow_mul-result-3
overflow_mul-result-3 c = omega (arith, (sizes (goal.at.overflow_mul-result-3 c).After-from-span).reached)
