use Rattle.items.proofs.Lowers.{other_length, by_its_kind}
use Rattle.items.proofs.is_lower.Goals as goal

pub returns-then-p-eq-LOWER_LENGTH : goal.returns-then-p-eq-LOWER_LENGTH
returns-then-p-eq-LOWER_LENGTH c = rw c.from.ensures (by_its_kind _ c.if-p-eq-LOWER_LENGTH.true)

pub returns-else-p-eq-LOWER_LENGTH : goal.returns-else-p-eq-LOWER_LENGTH
returns-else-p-eq-LOWER_LENGTH c = other_length _ c.if-p-eq-LOWER_LENGTH.false
