use native.Mathlib.Omega.{arith}
use Rattle.standard.proofs.Demand.{end_in_range}
use Rattle.segments.proofs.kinds.end_in.Goals as goal

pub overflow_mul-result : goal.overflow_mul-result
overflow_mul-result c =
    let f = c.args.figures.now in
    omega (arith, c.length.ensures, end_in_range f.national f.site f.roof 1 f.accepted.national f.accepted.site f.accepted.roof)
