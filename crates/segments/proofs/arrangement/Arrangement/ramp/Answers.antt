use Rattle.standard.specs.Arrangements.{count, stretch}
use Rattle.segments.proofs.arrangement.Arrangement.ramp.Goals as goal

pub ramp_in-requires : goal.ramp_in-requires
unfolding count
ramp_in-requires c = rw c.args.self.now.arranged.code_is c.requires

pub returns : goal.returns
unfolding stretch
returns c =
    let a = c.args.self.now.arranged in
    rw (← a.code_is, ← a.factor_is, ← a.sk_is) c.ramp_in.ensures
