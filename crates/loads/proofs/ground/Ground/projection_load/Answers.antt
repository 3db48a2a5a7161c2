use Rattle.loads.proofs.Parts.{part_without, alone_is}
use Rattle.standard.proofs.Numerators.{projection_is, projection_positive}
use Rattle.standard.specs.Projection.{projection_load}
use native.Mathlib.Omega.{arith}
use Rattle.loads.proofs.ground.Ground.projection_load.Goals as goal

pub returns : goal.returns
unfolding projection_load
returns c =
    let sk = c.args.self.in_range.sk.low in (
      alone_is _ _
          (part_without _ _ 10 _ c.args.self.sk _ (projection_positive c.args.h c.args.self.sk sk) (omega arith)
          (rw c.projection_numerator.ensures.0 (projection_is c.args.h c.args.self.sk sk)) c.up.ensures.0),
      c.up.ensures.1,
    )
