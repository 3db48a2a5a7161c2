use mathlib.Core.Path.{◌≡◌, sym, ◌∙◌}
use native.Mathlib.Nat.{add_comm}
use native.Mathlib.Omega.{arith}
use Prim.Native.Nat.{◌+◌, ◌-◌, ◌%◌}
use Rattle.figures.specs.Spans.{slope_of}
use Rattle.standard.specs.Coefficients.{guarded}
use Rattle.standard.specs.MultiSpan.{own_load, valley_load}
use Rattle.slope_ramps.proofs.Slopes.{inner, level_ramp, left_ramp, right_ramp}
use Rattle.slope_ramps.proofs.multi_span.multi_span_ramp.Goals as goal

pub returns-then-is_level : goal.returns-then-is_level
unfolding slope_of own_load guarded
returns-then-is_level c =
    level_ramp _ _ _ _ _ c.args.spans.now _ 0 c.slope_load-own.ensures.0 _ (sym c.is_level.ensures ∙ c.if-is_level.true)
    (rw c.from-extent.ensures at c.even.ensures)

pub returns-then-i-eq0 : goal.returns-then-i-eq0
unfolding slope_of own_load valley_load guarded
returns-then-i-eq0 c =
    let l = c.args.spans.now in
    let i = c.args.i in
    let drifted = sym c.is_level.ensures ∙ c.if-is_level.false in
    let before = rw c.if-i-eq0.true at c.across.ensures.0 in
    let same : i - 1 + 1 ≡ i = omega (arith, (inner _ i c.args.count drifted).0) in
    left_ramp _ _ _ _ _ l _ _ c.slope_load-own.ensures.0 _ drifted c.if-i-eq0.true
    (rw (same, ← before, add_comm (slope_of l c.across.result).pitch (slope_of l i).pitch) c.valley_load-valley.ensures.0)
    (rw c.from-extent.ensures at c.whole.ensures)

pub returns : goal.returns
unfolding slope_of own_load valley_load guarded
returns c =
    let odd : c.args.i % 2 ≡ 1 = omega (arith, c.if-i-eq0.false) in
    let after = rw odd at c.across.ensures.0 in
    right_ramp _ _ _ _ _ c.args.spans.now _ _ c.slope_load-own.ensures.0 _ (sym c.is_level.ensures ∙ c.if-is_level.false) odd
    (rw (← after) c.valley_load-valley.ensures.0)
    (rw c.from-extent.ensures at c.whole-2.ensures)
