use native.Mathlib.Omega.{arith}
use Rattle.digits.proofs.Shifted.{four_word}
use Rattle.digits.proofs.pairs.four.Goals as goal

pub returns : goal.returns
returns c = (omega (arith, four_word c.args.number), omega arith)
