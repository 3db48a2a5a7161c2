use mathlib.Core.Path.{◌≡◌}
use Prim.Native.Nat.{◌≤◌, ◌*◌}
use lib.ListN.{take}
use Rattle.std.specs.List.{sum_by}
use Rattle.slope_ramps.proofs.multi_span.widths_of.Given as goal

abbrev pub invariant-loop-slope : goal.invariant-loop-slope
invariant-loop-slope l = (l.sum ≡ sum_by (λ s. s.width) (take l.slope-index l.slopes)) × (l.sum ≤ 4294967295 * l.slope-index)
