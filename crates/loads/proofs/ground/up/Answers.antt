use Rattle.loads.proofs.Parts.{in_parts}
use Rattle.rounding.proofs.Rounding.{least}
use Rattle.standard.specs.Units.{largest_part}
use native.Mathlib.Omega.{arith}
use Rattle.loads.proofs.ground.up.Goals as goal

pub returns : goal.returns
returns c =
    let some = c.requires.0 in
    (in_parts _ _ _ _ (omega arith) (omega arith) c.ceil_div.ensures, rw c.ceil_div.ensures (least _ _ largest_part (omega arith) (omega (arith, c.requires.2))))
