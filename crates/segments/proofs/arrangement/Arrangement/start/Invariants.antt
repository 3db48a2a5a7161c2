use mathlib.Core.Path.{◌≡◌}
use Rattle.standard.specs.Arrangements.{stretch}
use Rattle.standard.specs.Stretch.{start_of}
use Rattle.segments.proofs.arrangement.Arrangement.start.Given as goal

abbrev pub invariant-loop-before : goal.invariant-loop-before
invariant-loop-before l =
    let f = l.self.figures.now in l.start ≡ start_of (stretch f.national f.site f.roof l.self.code) l.before
