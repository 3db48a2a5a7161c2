use Prim.Native.Nat.{◌*◌, ◌≤◌}
use mathlib.Core.Path.{◌≡◌, refl, sym, ◌∙◌}
use native.Mathlib.Nat.{mul-le-mul}
use native.Mathlib.Omega.{arith}
use Rattle.rounding.proofs.Ramps.{break_alone}
use Rattle.standard.specs.Numerators.{peak_num}
use Rattle.standard.specs.Units.{parts}
use Rattle.standard.proofs.Drift.{peak_rounded, peak_most}
use Rattle.drift_peaks.proofs.peak_load.Goals as goal

pub returns : goal.returns
unfolding peak_num
returns c =
    let a = c.args in
    let low = c.requires.1.low in
    let depth : 2 * c.from.result * a.ls ≡ 2 * a.h * a.ls = rw c.from.ensures refl in
    let width : 2 * c.from-2.result * a.sk ≡ 2 * a.b * a.sk = rw c.from-2.ensures refl in
    let n : c.min-smallest.result ≡ peak_num a.times a.h a.b a.ls a.sk = omega (arith, depth, width, c.min.ensures, c.min-smallest.ensures) in
    let most : a.times * a.sk ≤ 200000 = omega (arith, mul-le-mul c.requires.0 c.requires.2) in (
      peak_rounded a.times a.h a.b a.ls low parts a.sk _ _ (omega arith) c.ceil_div.ensures ∙ sym (break_alone parts _),
      omega (arith, peak_most a.times a.h a.b a.ls low parts a.sk _ _ (omega arith) c.ceil_div.ensures, most),
    )
