use Rattle.circles.specs.Following.{upper_in}
use Rattle.order.proofs.Writing.{Written}
use Rattle.order.proofs.list_order.Given as goal

abbrev pub invariant-loop-k : goal.invariant-loop-k
invariant-loop-k l = Written (upper_in l.upper) l.n l.initial.out l.k l.out l.marks
