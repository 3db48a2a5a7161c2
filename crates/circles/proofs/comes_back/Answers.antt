use Prim.Native.Nat.{ℕ, ◌-◌}
use mathlib.Core.Path.{◌≡◌, sym, ap, ◌∙◌}
use Rattle.circles.specs.Following.{upper_in, comes_back, meets}
use Rattle.circles.proofs.Turns.{meets_here, meets_next, meets_end, none_met}
use native.Mathlib.Omega.{arith}
use Rattle.circles.proofs.comes_back.Goals as goal

pub loop-step-init : goal.loop-step-init
unfolding comes_back
loop-step-init c =
    let e : c.args.n - 0 ≡ c.args.n = omega arith in
    rw (e, c.upper_of-above.ensures)

pub returns-then-above-eq0 : goal.returns-then-above-eq0
returns-then-above-eq0 c =
    let up = upper_in c.args.upper.now in
    let rest = c.args.n - c.loop-step._step in
    sym (c.loop-step.invariant ∙ (ap (λ (x : ℕ). meets up c.args.i x rest) c.if-above-eq0.true ∙ none_met up c.args.i rest c.requires.1 c.requires.0))

pub returns-then-above-i : goal.returns-then-above-i
returns-then-above-i c =
    cc (meets_here (upper_in c.args.upper.now) c.args.i c.loop-step.above c.loop-step._step c.args.n c.loop-step-test.true c.if-above-i.true)

pub loop-step-preserved : goal.loop-step-preserved
loop-step-preserved c =
    cc (meets_next (upper_in c.args.upper.now) c.args.i c.loop-step.above c.loop-step._step c.args.n c.loop-step-test.true c.if-above-i.false)

pub returns : goal.returns
returns c =
    cc (meets_end (upper_in c.args.upper.now) c.args.i c.loop-step.above c.loop-step._step c.args.n c.loop-step-test.false)
