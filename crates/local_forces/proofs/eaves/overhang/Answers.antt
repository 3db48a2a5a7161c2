use Rattle.std.proofs.Common.{rules}
use Rattle.standard.specs.Forces.{overhang_answer}
use Rattle.local_forces.proofs.Near.{overhang_near}
use Rattle.local_forces.proofs.eaves.overhang.Goals as goal

pub returns-clause-distance : goal.returns-clause-distance
unfolding overhang_answer
returns-clause-distance c = overhang_near c.args.store.now c.args.site c.args.roof c.args.slope _ (search rules)
