use native.Mathlib.Omega.{arith}
use Rattle.added_sets.proofs.Judged.{copied}
use Rattle.added_sets.proofs.put_set.Goals as goal

pub returns-clause-left : goal.returns-clause-left
returns-clause-left c =
    rw c.copy_from_slice.ensures.after (copied c.args.store.now c.args.numbers.now _ (omega arith) c.requires.2 (omega arith))
