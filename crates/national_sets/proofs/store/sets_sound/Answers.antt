use mathlib.Core.Path.{refl}
use native.Mathlib.Omega.{arith}
use native.Mathlib.Numerals.{add-one}
use Rattle.figures.specs.Store.{sets_sound}
use Rattle.national_sets.proofs.store.sets_sound.Goals as goal

pub loop-i-init : goal.loop-i-init
unfolding sets_sound
loop-i-init c = (refl, refl)

pub loop-i-preserved : goal.loop-i-preserved
unfolding sets_sound
loop-i-preserved c = (
  rw (add-one c.loop-i.i, c.set_sound-sound.ensures, c.loop-i.invariant.0, c.loop-i.invariant.1, c.set_at-set.ensures),
  rw (add-one c.loop-i.i, c.from-earliest.ensures, c.set_at-set.ensures),
)
