use Rattle.figures.specs.Store.{set_at, sets_sound, earliest_day}
use mathlib.Core.Path.{◌≡◌}
use Rattle.national_sets.proofs.store.sets_sound.Given as goal

abbrev pub invariant-loop-i : goal.invariant-loop-i
invariant-loop-i l = (l.sound ≡ sets_sound (set_at l.numbers) l.i) × (l.earliest ≡ earliest_day (set_at l.numbers) l.i)
