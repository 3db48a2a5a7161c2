use Rattle.text.proofs.Writing.{counted_above}
use Rattle.text.proofs.writer.digit_count.Goals as goal

pub returns : goal.returns
returns c =
    counted_above c.ilog10.result c.max.result c.args.number c.max.ensures c.ilog10.ensures.power_le c.ilog10.ensures.next_power_gt c.ranges.number.fits
