use mathlib.Core.Path.{refl, ◌∙◌}
use native.Mathlib.Numerals.{add-one}
use native.Mathlib.Omega.{arith}
use Rattle.segments.proofs.Starts.{next_start, start_most, next_most}
use Rattle.standard.specs.Stretch.{start_of, greatest}
use Rattle.roof_readings.proofs.Stations.{one_more}
use Rattle.roof_readings.proofs.greatest_reading.Goals as goal

pub loop-i-init : goal.loop-i-init
unfolding start_of greatest
loop-i-init c = (refl, omega arith, refl)

pub read-requires : goal.read-requires
read-requires c =
    let f = c.args.arrangement.now.figures.now in
    start_most f.national f.site f.roof c.args.arrangement.now.code f.accepted c.loop-i.i _ (omega (arith, c.count-i-end.ensures.0)) c.loop-i.invariant.2

pub overflow_add-start : goal.overflow_add-start
overflow_add-start c =
    let f = c.args.arrangement.now.figures.now in
    let is = c.ramp.view_is ∙ c.ramp-ramp.ensures in
    omega (arith, next_most f.national f.site f.roof c.args.arrangement.now.code f.accepted c.loop-i.i _ _ (omega (arith, c.count-i-end.ensures.0)) c.loop-i.invariant.2 is)

pub loop-i-preserved : goal.loop-i-preserved
loop-i-preserved c = (
  one_more _ _ _ _ _ c.loop-i.invariant.2 c.ramp-ramp.ensures _ _ _ c.loop-i.invariant.0 c.read.ensures.0 (omega arith),
  omega (arith, c.loop-i.invariant.1, c.read.ensures.1),
  rw (add-one c.loop-i.i) (next_start _ _ _ _ c.loop-i.invariant.2 (c.ramp.view_is ∙ c.ramp-ramp.ensures)),
)
