use Rattle.standard.specs.Cylindrical.{wide_enough}
use Prim.Native.Nat.{◌≤◌, ◌<◌, ◌-◌}
use mathlib.Core.Bool.{true, false}
use mathlib.Core.Path.{◌≡◌}
use Rattle.loads.proofs.lengths.least_width.Given as goal

abbrev pub invariant-loop-wide : goal.invariant-loop-wide
invariant-loop-wide l =
    (l.short < l.wide)
    × (l.wide ≤ l.arch.span)
    × (wide_enough l.arch.rise l.arch.span l.short ≡ false)
    × (wide_enough l.arch.rise l.arch.span l.wide ≡ true)

abbrev pub decreases-loop-wide : goal.decreases-loop-wide
decreases-loop-wide l = l.wide - l.short
