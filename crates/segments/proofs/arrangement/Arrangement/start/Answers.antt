use mathlib.Core.Path.{◌≡◌, refl, ◌∙◌}
use native.Mathlib.Numerals.{add-one}
use native.Mathlib.Omega.{arith}
use Rattle.segments.proofs.Starts.{next_start, start_most, next_most}
use Rattle.standard.specs.Stretch.{start_of}
use Rattle.segments.proofs.arrangement.Arrangement.start.Goals as goal

pub loop-before-init : goal.loop-before-init
unfolding start_of
loop-before-init c = refl

pub overflow_add-start : goal.overflow_add-start
overflow_add-start c =
    let f = c.args.self.now.figures.now in
    let is = c.ramp.view_is ∙ c.ramp-ramp.ensures in
    omega (arith, next_most f.national f.site f.roof c.args.self.now.code f.accepted c.loop-before.before _ _ (omega (arith, c.requires)) c.loop-before.invariant is)

pub loop-before-preserved : goal.loop-before-preserved
loop-before-preserved c =
    let next = next_start _ _ _ _ c.loop-before.invariant (c.ramp.view_is ∙ c.ramp-ramp.ensures) in rw (add-one c.loop-before.before) (omega (arith, next))

pub returns : goal.returns
returns c =
    let f = c.args.self.now.figures.now in
    let e : c.loop-before.before ≡ c.args.i = omega (arith, c.loop-before-test.false, c.loop-before.auto.before-end) in
    let is = rw e at c.loop-before.invariant in
    (is, start_most f.national f.site f.roof c.args.self.now.code f.accepted c.args.i _ c.requires is)
