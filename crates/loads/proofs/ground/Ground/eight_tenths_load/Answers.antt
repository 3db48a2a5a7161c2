use Rattle.loads.proofs.Parts.{load_is}
use Rattle.rounding.specs.Fraction.{over, Same}
use mathlib.Core.Path.{refl}
use native.Mathlib.Omega.{arith}
use Rattle.loads.proofs.ground.Ground.eight_tenths_load.Goals as goal

pub returns : goal.returns
unfolding Same
returns c = load_is (over 8 10) 8 10 _ _ _ (record { positive = omega arith; some = omega arith; same = refl }) c.load_up.ensures
