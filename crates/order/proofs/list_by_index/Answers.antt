use Rattle.order.proofs.Writing.{counted_none, counted_turn}
use native.Mathlib.Omega.{arith}
use Rattle.order.proofs.list_by_index.Goals as goal

pub loop-k-init : goal.loop-k-init
loop-k-init c = counted_none _

pub loop-k-preserved : goal.loop-k-preserved
loop-k-preserved c = counted_turn c.loop-k.invariant (omega arith)
