use mathlib.Core.Path.{◌≡◌, sym, ◌∙◌}
use Rattle.pairs.specs.Pairs.{pair_number}
use native.Mathlib.Numerals.{add-one}
use Rattle.pairs.proofs.Walks.{turn_refused, turn_next, turn_end, pair_early, pair_past, pair_sound}
use native.Mathlib.Omega.{arith}
use Rattle.pairs.proofs.reading.check_pairs.Goals as goal
use Rattle.pairs.proofs.reading.check_pairs.Goals.{then-start-earliest-via-then-start-earliest, then-start-earliest-via-else-start-earliest+then-s-end}

pub returns-then-start-earliest : goal.returns-then-start-earliest
returns-then-start-earliest c =
    let e : pair_number c.args.s.now c.loop-i.i ≡ 2 =
    elim c.then-start-earliest.branch [
      | then-start-earliest-via-then-start-earliest w ↦
          pair_early c.args.s.now c.loop-i.i
          (omega (arith, w.if-start-earliest.true, c.loop-i.invariant.0, c.start-start.ensures, c.pair_at-pair.ensures.0))
      | then-start-earliest-via-else-start-earliest+then-s-end w ↦
          pair_past c.args.s.now c.loop-i.i
          (omega (arith, w.if-start-earliest.false, c.loop-i.invariant.0, c.start-start.ensures, c.pair_at-pair.ensures.0))
          (omega (arith, w.if-s-end.true, c.end-end.ensures, c.pair_at-pair.ensures.0, c.pair_at-pair.ensures.1))
    ] in
    turn_refused _ _ _ _ 2 c.loop-i-test.true e (λ z. omega arith) ∙ sym c.loop-i.invariant.1

pub loop-i-preserved : goal.loop-i-preserved
loop-i-preserved c =
    let sound =
    pair_sound c.args.s.now c.loop-i.i
    (omega (arith, c.if-start-earliest.false, c.loop-i.invariant.0, c.start-start.ensures, c.pair_at-pair.ensures.0))
    (omega (arith, c.if-s-end.false, c.end-end.ensures, c.pair_at-pair.ensures.0, c.pair_at-pair.ensures.1)) in (
      rw (add-one c.loop-i.i) (omega (arith, c.end-end.ensures, c.pair_at-pair.ensures.0, c.pair_at-pair.ensures.1)),
      c.loop-i.invariant.1 ∙ turn_next _ _ _ _ c.loop-i-test.true sound,
    )

pub returns : goal.returns
returns c = turn_end _ _ _ _ c.loop-i-test.false ∙ sym c.loop-i.invariant.1
