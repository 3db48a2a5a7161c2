use Rattle.std.proofs.Common.{rules}
use Rattle.standard.specs.Forces.{guard_answer}
use Rattle.local_forces.proofs.Near.{guard_near}
use Rattle.local_forces.proofs.guards.guard_force.Goals as goal

pub returns-clause-distance : goal.returns-clause-distance
unfolding guard_answer
returns-clause-distance c = guard_near c.args.store.now c.args.site c.args.roof c.args.slope _ (search rules)
