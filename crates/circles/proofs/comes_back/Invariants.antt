use Rattle.std.proofs.Common.{◌≡◌, ◌-◌}
use Rattle.circles.specs.Following.{upper_in, comes_back, meets}
use Rattle.circles.proofs.comes_back.Given as goal

abbrev pub invariant-loop-step : goal.invariant-loop-step
invariant-loop-step l = comes_back (upper_in l.upper) l.n l.i ≡ meets (upper_in l.upper) l.i l.above (l.n - l._step)
