use Prim.Native.Nat.{◌+◌, ◌*◌, ◌<◌}
use native.Mathlib.Omega.{arith}
use Rattle.figures.specs.Spans.{slope_of}
use Rattle.valley_drifts.proofs.Valleys.{before_in, after_in, bare_before, ramp_up, ramp_down, bare_after}
use Rattle.valley_drifts.proofs.valley_ramp.Goals as goal

pub even-requires : goal.even-requires
even-requires c =
    let b = before_in _ _ _ c.requires.0 c.requires.1 _ c.widths_between.ensures.0 in (omega (arith, b.0), b.1, omega arith)

pub overflow_mul-from : goal.overflow_mul-from
unfolding slope_of
overflow_mul-from c =
    let s = c.requires.0.spans (2 * c.args.v + 1) (omega (arith, c.requires.1)) in omega (arith, s.width.high)

pub whole-requires : goal.whole-requires
unfolding slope_of
whole-requires c =
    let s = c.requires.0.spans (2 * c.args.v + 1) (omega (arith, c.requires.1)) in
    (omega (arith, s.width.low), omega (arith, s.width.high), omega arith, omega (arith, c.valley_load.ensures.1))

pub overflow_mul-from-in-2 : goal.overflow_mul-from-in-2
unfolding slope_of
overflow_mul-from-in-2 c =
    let s = c.requires.0.spans (2 * c.args.v + 2) (omega (arith, c.requires.1)) in omega (arith, s.width.high)

pub whole-requires-in-2 : goal.whole-requires-in-2
unfolding slope_of
whole-requires-in-2 c =
    let s = c.requires.0.spans (2 * c.args.v + 2) (omega (arith, c.requires.1)) in
    (omega (arith, s.width.low), omega (arith, s.width.high), omega (arith, c.valley_load-in-2.ensures.1), omega arith)

pub even-requires-in_default : goal.even-requires-in_default
even-requires-in_default c =
    let a = after_in _ _ _ c.requires.0 c.requires.1 _ c.widths_between-in_default.ensures.0 in (omega (arith, a.0), a.1, omega arith)

pub returns-in-0 : goal.returns-in-0
returns-in-0 c = rw c.in-0.is (bare_before _ _ _ _ _ _ c.widths_between.ensures.0 c.even.ensures)

pub returns-in-1 : goal.returns-in-1
unfolding slope_of
returns-in-1 c = rw c.in-1.is (ramp_up _ _ _ _ _ _ _ c.from.ensures c.valley_load.ensures.0 c.whole.ensures)

pub returns-in-2 : goal.returns-in-2
unfolding slope_of
returns-in-2 c = rw c.in-2.is (ramp_down _ _ _ _ _ _ _ c.from-in-2.ensures c.valley_load-in-2.ensures.0 c.whole-in-2.ensures)

pub returns-in_default : goal.returns-in_default
returns-in_default c =
    let past : 2 < c.args.i = omega arith in
    bare_after _ _ _ _ _ _ _ past c.widths_between-in_default.ensures.0 c.even-in_default.ensures
