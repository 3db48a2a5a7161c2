use mathlib.Core.Path.{refl, ◌∙◌}
use native.Mathlib.Numerals.{add-one}
use Rattle.standard.specs.Stretch.{start_of, segments, lists_joined}
use Rattle.written_segments.proofs.Writing.{one_more}
use Rattle.written_segments.proofs.write.Goals as goal

pub loop-i-init : goal.loop-i-init
unfolding start_of segments lists_joined
loop-i-init c = (refl, refl)

pub loop-i-preserved : goal.loop-i-preserved
loop-i-preserved c =
    let four = c.copy_from_slice.ensures.after ∙ c.numbers.ensures ∙ c.segment_at-segment.ensures.numbers in
    (rw (add-one c.loop-i.i) c.segment_at-segment.ensures.end, one_more _ _ _ _ _ four c.loop-i.invariant.1)
