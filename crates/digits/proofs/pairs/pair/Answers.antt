use native.Mathlib.Omega.{arith}
use Rattle.digits.proofs.Table.{pair_at}
use Rattle.digits.proofs.pairs.pair.Goals as goal

pub returns : goal.returns
returns c =
    let p = pair_at c.args.number c.requires in
    (omega (arith, p.0, p.1), omega arith)
