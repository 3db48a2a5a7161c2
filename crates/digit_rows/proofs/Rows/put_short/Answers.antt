use Rattle.digit_rows.proofs.Spoiled.{loosely, loose_as, six}
use native.Mathlib.Omega.{arith}
use Rattle.digit_rows.proofs.Rows.put_short.Goals as goal

pub returns-clause-loose : goal.returns-clause-loose
returns-clause-loose c =
    loose_as
    (loosely 6 c.put_digits.ensures.loose
    (loosely 6 c.put_digits-2.ensures.loose
    (loosely 6 c.put_digits-3.ensures.loose
    (loosely 6 c.put_digits-4.ensures.loose
    (loosely 6 c.put_digits-5.ensures.loose c.put_digits-6.ensures.loose (omega arith))
    (omega arith)) (omega arith)) (omega arith)) (omega arith))
    (six c.args.self.now.item.number c.args.self.now.code.number c.args.segment.now c.told-segment
    c.or_of-start.ensures c.of-self.ensures c.or_of-first.ensures c.or_of-self.ensures)
