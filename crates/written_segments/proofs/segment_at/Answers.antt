use mathlib.Core.Path.{◌∙◌}
use native.Mathlib.Omega.{arith}
use Rattle.segments.proofs.Starts.{next_start, next_most}
use Rattle.written_segments.proofs.Writing.{segment_is}
use Rattle.written_segments.proofs.segment_at.Goals as goal

pub overflow_add-result : goal.overflow_add-result
overflow_add-result c =
    let f = c.args.arrangement.now.figures.now in
    let is = c.ramp.view_is ∙ c.ramp-ramp.ensures in
    omega (arith, next_most f.national f.site f.roof c.args.arrangement.now.code f.accepted c.args.i c.args.start _ c.requires.index_in c.requires.start_value is)

pub returns-clause-numbers : goal.returns-clause-numbers
returns-clause-numbers c =
    let from = rw (← c.ramp.view_is) at c.reading.ensures.0 in
    let to = rw (← c.ramp.view_is) at c.reading-2.ensures.0 in
    segment_is _ _ _ _ c.requires.start_value (c.ramp.view_is ∙ c.ramp-ramp.ensures) _ _ _ _ (omega arith) (omega arith) from to

pub returns-clause-end : goal.returns-clause-end
returns-clause-end c = omega (arith, next_start _ _ _ _ c.requires.start_value (c.ramp.view_is ∙ c.ramp-ramp.ensures))
