use native.Mathlib.Omega.{arith}
use Rattle.text.proofs.Writing.{then, room, wrote_as}
use Rattle.plain_rows.proofs.Segments.{rows_more}
use Rattle.plain_rows.proofs.list_plainly.Goals as goal

pub put_segment-requires : goal.put_segment-requires
put_segment-requires c = omega (arith, room c.loop-segment.invariant.wrote)

pub loop-segment-preserved : goal.loop-segment-preserved
loop-segment-preserved c = record {
  wrote = wrote_as (then c.loop-segment.invariant.wrote c.put_segment.ensures.wrote)
      (rows_more c.args.heading.item c.args.heading.code c.args.segments.now c.loop-segment.segment-index c.loop-segment-test.true);
  place = omega arith;
}
