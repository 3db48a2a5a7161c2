use native.Mathlib.Omega.{arith}
use Rattle.slope_ramps.proofs.Slopes.{widths_part}
use Rattle.slope_ramps.proofs.multi_span.widths_between.Goals as goal

pub returns : goal.returns
returns c = (rw c.widths_of.ensures.0 (widths_part c.args.spans.now _ _ c.requires.0 (omega arith)), omega arith)
