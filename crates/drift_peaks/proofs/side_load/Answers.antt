use native.Mathlib.Omega.{arith}
use Rattle.rounding.proofs.Ramps.{break_alone}
use Rattle.standard.specs.Obstruction.{side_peak}
use Rattle.standard.specs.Units.{parts}
use Rattle.standard.proofs.Obstruction.{side_rounded}
use Rattle.drift_peaks.proofs.side_load.Goals as goal

pub returns : goal.returns
returns c =
    let h = c.args.h in
    let sk = c.args.sk in
    let least = rw c.from.ensures at c.min.ensures in
    (omega (arith, least, side_rounded h parts sk, break_alone parts (side_peak h sk)), omega (arith, least))
