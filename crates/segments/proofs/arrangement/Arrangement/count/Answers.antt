use native.Mathlib.Omega.{arith}
use Rattle.standard.proofs.Demand.{well_formed}
use Rattle.segments.proofs.arrangement.Arrangement.count.Goals as goal

pub returns : goal.returns
returns c =
    let a = c.args.self.now.arranged in
    let f = c.args.self.now.figures.now in
    let few = (well_formed f.national f.site f.roof c.args.self.now.code f.accepted.national f.accepted.site f.accepted.roof).few in
    (a.count_is, omega (arith, a.count_is, few))
