use Rattle.segments.proofs.Shapes.{known_in}
use native.Mathlib.Omega.{arith}
use Rattle.segments.proofs.kinds.length.Goals as goal

pub overflow_add-result : goal.overflow_add-result
overflow_add-result c =
    let k = known_in c.args.figures.now c.in-Pitched.is in omega (arith, k.left.slope.width.high, k.right.slope.width.high)

pub overflow_add-result-in-Projection : goal.overflow_add-result-in-Projection
overflow_add-result-in-Projection c =
    let k = known_in c.args.figures.now c.in-Projection.is in omega (arith, k.left.high, k.right.high)

pub widths_between-requires : goal.widths_between-requires
widths_between-requires c =
    let few = (known_in c.args.figures.now c.in-MultiSpan.is).count.high in (omega arith, omega (arith, few))
