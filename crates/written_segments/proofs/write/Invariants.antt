use lib.ListN.{drop}
use mathlib.Core.List.{◌++◌}
use mathlib.Core.Path.{◌≡◌}
use Prim.Native.Nat.{◌*◌}
use Rattle.standard.specs.Arrangements.{stretch}
use Rattle.standard.specs.Stretch.{start_of, segments}
use Rattle.standard.specs.Units.{parts}
use Rattle.written_segments.proofs.write.Given as goal

abbrev pub invariant-loop-i : goal.invariant-loop-i
invariant-loop-i l =
    let f = l.arrangement.figures.now in
    let S = stretch f.national f.site f.roof l.arrangement.code in
    (l.start ≡ start_of S l.i)
    × (l.out ≡ segments parts S l.i ++ drop (4 * l.i) l.initial.out)
