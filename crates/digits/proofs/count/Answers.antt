use mathlib.Core.Path.{refl}
use Rattle.digits.proofs.Shifted.{four_count}
use Rattle.digits.proofs.count.Goals as goal

pub returns-clause-value : goal.returns-clause-value
returns-clause-value c =
    rw (c.from.ensures, c.from-2.ensures, c.from-3.ensures) (four_count c.args.number _ _ _ refl refl refl c.requires)
