use Rattle.loads.proofs.Parts.{part_is, part_without, both_are}
use Rattle.standard.proofs.Numerators.{wind_is, wind_positive, slide_is, slide_positive}
use Rattle.standard.specs.Abutting.{wall_load}
use native.Mathlib.Omega.{arith}
use Rattle.loads.proofs.ground.Ground.wall_load.Goals as goal

pub returns : goal.returns
unfolding wall_load
returns c =
    let n = c.args.national in
    let roof = c.args.roof in
    let sk = c.args.self.sk in
    let some = c.args.self.in_range.sk.low in
    let step = c.requires.2.low in (
      both_are _ _ _ _
          (part_without _ _ _ _ sk _ (wind_positive n roof.b1 roof.b2 roof.h sk step some) (omega arith)
          (rw (c.from.ensures, c.wind_numerator.ensures.0) (wind_is n roof.b1 roof.b2 roof.h sk step some))
          c.up-wind.ensures.0)
          (rw (← c.requires.5)
          (part_is _ _ _ _ sk _
          (record {
            positive = slide_positive roof.slope.slope roof.slope.guard c.args.ls (omega (arith, c.requires.6.low));
            some = omega (arith, c.requires.6.low);
            same = rw c.slide_numerator.ensures.0 (slide_is roof.slope.slope roof.slope.guard c.args.ls c.requires.4);
          })
          c.load_up-slide.ensures.0)),
      omega (arith, c.up-wind.ensures.1, c.load_up-slide.ensures.1),
    )
