use Rattle.std.proofs.Common.{sym, ◌∙◌}
use Rattle.figures.specs.Refusal.{number_of}
use Rattle.figures.proofs.Numbers.{numbered}
use Rattle.pairs.proofs.Walks.{turn_refused, turn_next, turn_end}
use native.Mathlib.Omega.{arith}
use Rattle.pairs.proofs.turns.in_turn.Goals as goal

pub returns-in-Err : goal.returns-in-Err
returns-in-Err g c number h =
    let e = h c.loop-i.i c.check.result (omega arith) c.loop-i-test.true c.check.ensures in
    turn_refused number c.args.count c.loop-i.i c.args.count (number_of c.in-Err.refusal) c.loop-i-test.true (sym (rw c.in-Err.is at e)) (λ z. omega (arith, numbered c.in-Err.refusal))
    ∙ sym (c.loop-i.invariant number h)

pub loop-i-preserved : goal.loop-i-preserved
loop-i-preserved g c number h =
    let e = h c.loop-i.i c.check.result (omega arith) c.loop-i-test.true c.check.ensures in
    c.loop-i.invariant number h ∙ turn_next number c.args.count c.loop-i.i c.args.count c.loop-i-test.true (sym (rw c.in_default.is at e))

pub returns : goal.returns
returns g c number h = turn_end number c.args.count c.loop-i.i c.args.count c.loop-i-test.false ∙ sym (c.loop-i.invariant number h)
