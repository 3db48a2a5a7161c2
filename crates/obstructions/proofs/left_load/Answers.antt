use native.Mathlib.Omega.{arith}
use Rattle.ramps.proofs.Stretches.{no_load_lem}
use Rattle.standard.specs.Obstruction.{left_peak}
use Rattle.obstructions.proofs.left_load.Goals as goal

pub returns-in-Parapet : goal.returns-in-Parapet
unfolding left_peak
returns-in-Parapet c = (rw c.in-Parapet.is no_load_lem, omega arith)
