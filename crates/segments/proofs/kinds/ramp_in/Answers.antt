use Rattle.standard.specs.Arrangements.{count_in}
use Rattle.segments.proofs.Shapes.{known_in, known_index}
use Rattle.segments.proofs.kinds.ramp_in.Goals as goal

pub slope_ramp-requires : goal.slope_ramp-requires
slope_ramp-requires c = known_in c.args.figures.now c.in-Monopitch.is

pub pitched_ramp-requires : goal.pitched_ramp-requires
pitched_ramp-requires c = known_in c.args.figures.now c.in-Pitched.is

pub spans_ramp-requires : goal.spans_ramp-requires
unfolding count_in
spans_ramp-requires c =
    (known_in c.args.figures.now c.in-MultiSpan.is, known_index c.args.figures.now c.in-MultiSpan.is _ _ c.requires)

pub cylindrical_ramp-requires : goal.cylindrical_ramp-requires
unfolding count_in
cylindrical_ramp-requires c = (
  c.args.figures.now.accepted.national,
  known_in c.args.figures.now c.in-Cylindrical.is,
  known_index c.args.figures.now c.in-Cylindrical.is _ _ c.requires,
)

pub abutting_ramp-requires : goal.abutting_ramp-requires
unfolding count_in
abutting_ramp-requires c = (
  c.args.figures.now.accepted.national,
  known_in c.args.figures.now c.in-Abutting.is,
  known_index c.args.figures.now c.in-Abutting.is _ _ c.requires,
)

pub projection_ramp-requires : goal.projection_ramp-requires
unfolding count_in
projection_ramp-requires c =
    (known_in c.args.figures.now c.in-Projection.is, known_index c.args.figures.now c.in-Projection.is _ _ c.requires)

pub obstruction_ramp-requires : goal.obstruction_ramp-requires
unfolding count_in
obstruction_ramp-requires c =
    (known_in c.args.figures.now c.in-Obstructed.is, c.args.ground.in_range.sk.high, known_index c.args.figures.now c.in-Obstructed.is _ _ c.requires)
