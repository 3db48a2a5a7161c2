use Prim.Native.Nat.{max}
use mathlib.Core.Path.{◌≡◌}
use native.Mathlib.Omega.{arith}
use Rattle.standard.specs.Obstruction.{parapet_length, parapet_peak, right_peak}
use Rattle.obstructions.proofs.Rows.{known_in}
use Rattle.obstructions.proofs.right_load.Goals as goal

pub peak_load-requires : goal.peak_load-requires
unfolding parapet_length
peak_load-requires c =
    let k = known_in c.in-Parapet.is c.requires.0 in
    let low = k.behind.low in
    let high = k.behind.high in
    (omega arith, record { low = omega (arith, c.parapet_length.ensures.0, k.height.low, low); high = omega (arith, c.parapet_length.ensures.1, high) }, c.requires.1)

pub returns-in-Parapet : goal.returns-in-Parapet
unfolding right_peak parapet_peak
returns-in-Parapet c =
    let wide : c.max.result ≡ max c.in-Parapet.b1 c.in-Parapet.b2 = omega (arith, c.max.ensures) in
    (rw (c.in-Parapet.is, ← c.parapet_length.ensures.0, ← wide) c.peak_load.ensures.0, c.peak_load.ensures.1)
