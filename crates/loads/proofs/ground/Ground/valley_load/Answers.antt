use Rattle.loads.proofs.Parts.{load_is}
use Rattle.standard.proofs.Numerators.{mu2_is, mu2_positive}
use Prim.Native.Nat.{◌+◌}
use native.Mathlib.Omega.{arith}
use Rattle.loads.proofs.ground.Ground.valley_load.Goals as goal

pub returns : goal.returns
returns c =
    let t = c.args.left + c.args.right in
    load_is _ _ 750 _ _ _
    (record { positive = mu2_positive t; some = omega arith; same = rw c.valley_numerator.ensures.0 (mu2_is t) })
    c.load_up.ensures
