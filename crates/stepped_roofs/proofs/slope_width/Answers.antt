use Rattle.std.proofs.Common.{rules, ◌≡◌}
use Rattle.figures.specs.Slopes.{slope_at}
use Rattle.stepped_roofs.specs.Stepped.{slope_width}
use Rattle.stepped_roofs.proofs.Uppers.{width_in}
use native.Mathlib.Omega.{arith}
use Rattle.stepped_roofs.proofs.slope_width.Goals as goal

pub returns : goal.returns
returns c =
    let e : c.map_or.result ≡ slope_width (slope_at c.args.shape c.args.number) = search rules in
    (e, omega (arith, e, width_in c.args.shape c.requires.spans c.args.number c.requires.accepted))
