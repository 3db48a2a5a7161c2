use borrow.Author.Tests.{eq-eqb, le-leb}
use Rattle.national_sets.proofs.store.store_sound.Goals as goal

pub returns-then-count-le-MOST_SETS : goal.returns-then-count-le-MOST_SETS
returns-then-count-le-MOST_SETS c =
    rw (eq-eqb _ 193 c.if-numbers-ne-STORE_NUMBERS.false, le-leb _ 32 c.if-count-le-MOST_SETS.true) c.sets_sound.ensures
