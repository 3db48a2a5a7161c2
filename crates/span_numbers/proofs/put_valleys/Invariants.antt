use Rattle.std.specs.Prelude.{◌≡◌}
use Rattle.span_numbers.specs.SpanNumbers.{valleys_from}
use Rattle.span_numbers.proofs.put_valleys.Given as goal

abbrev pub invariant-loop-j : goal.invariant-loop-j
invariant-loop-j l = l.valleys ≡ valleys_from l.p l.first l.initial.valleys l.j
