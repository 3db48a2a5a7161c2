use Rattle.loads.proofs.Parts.{load_is, halved_is}
use Rattle.standard.proofs.Numerators.{mu3_is, mu3_positive}
use Prim.Native.Nat.{◌<◌}
use native.Mathlib.Omega.{arith}
use Rattle.loads.proofs.ground.Ground.arch_load.Goals as goal

pub returns : goal.returns
returns c =
    let n = c.args.national in
    let some : 0 < c.args.arch.span = omega (arith, c.requires.2.low) in
    load_is _ _ _ _ _ _
    (halved_is c.args.half _ _ _ _ c.divisor.ensures
    (record {
      positive = mu3_positive n c.args.arch.rise c.args.arch.span some;
      some = omega arith;
      same = rw (c.from.ensures, c.arch_numerator.ensures.0) (mu3_is n c.args.arch.rise c.args.arch.span some);
    }))
    c.load_up.ensures
