use Rattle.loads.proofs.Parts.{load_is, halved_is}
use Rattle.standard.proofs.Numerators.{slope_mu_is, slope_mu_positive}
use native.Mathlib.Omega.{arith}
use Rattle.loads.proofs.ground.Ground.slope_load.Goals as goal

pub returns : goal.returns
returns c =
    let s = c.args.slope in
    load_is _ _ _ _ _ _
    (halved_is c.args.half _ _ 375 _ c.divisor.ensures
    (record {
      positive = slope_mu_positive s.slope s.guard;
      some = omega arith;
      same = rw c.slope_numerator.ensures.0 (slope_mu_is s.slope s.guard c.requires);
    }))
    c.load_up.ensures
