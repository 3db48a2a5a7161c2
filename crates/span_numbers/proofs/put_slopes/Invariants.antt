use Rattle.std.specs.Prelude.{◌≡◌}
use Rattle.span_numbers.specs.SpanNumbers.{slopes_from}
use Rattle.span_numbers.proofs.put_slopes.Given as goal

abbrev pub invariant-loop-i : goal.invariant-loop-i
invariant-loop-i l = l.slopes ≡ slopes_from l.p l.initial.slopes l.i
