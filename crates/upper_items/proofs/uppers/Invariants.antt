use Rattle.upper_items.proofs.Lowers.{Filled}
use Rattle.upper_items.proofs.uppers.Given as goal

abbrev pub invariant-loop-i : goal.invariant-loop-i
invariant-loop-i l = Filled l.fn.items.sheet.now l.i l.table
