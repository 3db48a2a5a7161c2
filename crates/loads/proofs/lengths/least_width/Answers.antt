use Rattle.loads.proofs.Widths.{none_reaches, halved_out}
use Rattle.standard.proofs.Cylindrical.{span_wide_enough}
use native.Mathlib.Omega.{arith}
use Rattle.loads.proofs.lengths.least_width.Goals as goal

pub loop-wide-init : goal.loop-wide-init
loop-wide-init c = (
  omega (arith, c.requires.0.span.low),
  omega arith,
  none_reaches _ _ c.requires.0.rise.low,
  rw c.from-wide.ensures (span_wide_enough _ _ c.requires.0.half c.requires.1),
)

pub returns : goal.returns
returns c = (
  halved_out _ _ c.loop-wide.short c.loop-wide.wide c.requires.1 c.loop-wide.invariant.2 c.loop-wide.invariant.3 (omega arith) c.loop-wide.invariant.1,
  record { low = omega arith; high = omega arith },
)
