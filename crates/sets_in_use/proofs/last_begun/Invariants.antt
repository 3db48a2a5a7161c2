use Rattle.std.proofs.Common.{◌≡◌}
use Rattle.figures.specs.Store.{set_count, set_at, last_begun}
use Rattle.sets_in_use.proofs.last_begun.Given as goal

abbrev pub invariant-loop-i : goal.invariant-loop-i
invariant-loop-i l =
    last_begun (set_at l.store.numbers.now) l.day (set_count l.store.numbers.now) ≡ last_begun (set_at l.store.numbers.now) l.day l.i
