use Prim.Native.Nat.{◌≤◌}
use mathlib.Core.Path.{◌≡◌}
use Rattle.standard.specs.Arrangements.{stretch}
use Rattle.standard.specs.Stretch.{start_of, greatest}
use Rattle.standard.specs.Units.{parts, largest_load}
use Rattle.roof_readings.proofs.greatest_reading.Given as goal

abbrev pub invariant-loop-i : goal.invariant-loop-i
invariant-loop-i l =
    let f = l.arrangement.figures.now in
    let S = stretch f.national f.site f.roof l.arrangement.code in
    (l.load ≡ greatest parts S l.station l.i) × (l.load ≤ largest_load) × (l.start ≡ start_of S l.i)
