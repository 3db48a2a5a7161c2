use Prim.Native.Nat.{◌-◌}
use lib.ListN.{take}
use Rattle.text.proofs.Writing.{then, room, wrote_as, fields_more, row_ends}
use native.Mathlib.Omega.{arith}
use Rattle.text.proofs.writer.Writer.put_row.Goals as goal

pub put_field-requires : goal.put_field-requires
put_field-requires g c = omega (arith, room c.loop-number.invariant.wrote)

pub loop-number-preserved : goal.loop-number-preserved
loop-number-preserved g c = record {
  wrote = wrote_as (then c.loop-number.invariant.wrote c.put_field.ensures.wrote) (fields_more (take (g.row.N - 1) c.args.numbers.now) c.loop-number.number-index c.loop-number-test.true);
  place = omega arith;
}

pub put_field-requires-2 : goal.put_field-requires-2
put_field-requires-2 g c = omega (arith, room c.loop-number.invariant.wrote)

pub returns-clause-wrote : goal.returns-clause-wrote
returns-clause-wrote g c =
    wrote_as (then c.loop-number.invariant.wrote c.put_field-2.ensures.wrote)
    (row_ends c.args.numbers.now g.row.N c.loop-number.number-index c.told-numbers c.requires.0 (omega arith))
