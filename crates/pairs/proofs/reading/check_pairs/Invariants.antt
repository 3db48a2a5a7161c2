use mathlib.Core.Path.{◌≡◌}
use Prim.Native.Nat.{◌-◌}
use Rattle.pairs.specs.Pairs.{earliest, pair_number, in_turn}
use Rattle.pairs.proofs.reading.check_pairs.Given as goal

abbrev pub invariant-loop-i : goal.invariant-loop-i
invariant-loop-i l = (l.earliest ≡ earliest l.s l.i) × (in_turn (pair_number l.s) l.n 0 l.n ≡ in_turn (pair_number l.s) l.n l.i (l.n - l.i))
