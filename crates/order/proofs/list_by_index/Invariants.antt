use Rattle.order.proofs.Writing.{Counted}
use Rattle.order.proofs.list_by_index.Given as goal

abbrev pub invariant-loop-k : goal.invariant-loop-k
invariant-loop-k l = Counted l.initial.out l.k l.out
