use Rattle.segments.proofs.Shapes.{known_in}
use Rattle.segments.proofs.kinds.count_in.Goals as goal

pub spans_count-requires : goal.spans_count-requires
spans_count-requires c = (known_in c.args.figures.now c.in-MultiSpan.is).count.high

pub cylindrical_count-requires : goal.cylindrical_count-requires
cylindrical_count-requires c = known_in c.args.figures.now c.in-Cylindrical.is

pub abutting_count-requires : goal.abutting_count-requires
abutting_count-requires c = (c.args.figures.now.accepted.national, (known_in c.args.figures.now c.in-Abutting.is).step.high)

pub projection_count-requires : goal.projection_count-requires
projection_count-requires c = (known_in c.args.figures.now c.in-Projection.is).height.high
