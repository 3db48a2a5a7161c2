use Prim.Native.Nat.{◌≤◌, ◌-◌}
use Rattle.second_numbers.proofs.halving.least.Given as goal

abbrev pub invariant-loop-from : goal.invariant-loop-from
invariant-loop-from g l = (l.from ≤ l.to) × (l.to ≤ l.most)

abbrev pub decreases-loop-from : goal.decreases-loop-from
decreases-loop-from g l = l.to - l.from
