use mathlib.Core.Path.{ap, sym, ◌∙◌}
use native.Mathlib.Omega.{arith}
use Rattle.text.proofs.Writing.{wrote_as}
use Rattle.plain_rows.specs.Rows.{rows_of}
use Rattle.plain_rows.proofs.Segments.{segments_are}
use Rattle.segment_rows.proofs.list_segments.Goals as goal

pub returns-in-Some-clause-wrote : goal.returns-in-Some-clause-wrote
returns-in-Some-clause-wrote c =
    wrote_as c.list_short.ensures.wrote
    (ap (rows_of c.args.heading.item c.args.heading.code) (sym c.in-Some.ensures.cases.0 ∙ c.as_chunks.ensures.front)
    ∙ segments_are c.args.numbers.now c.args.heading.item c.args.heading.code _ (omega arith))

pub returns-in_default-clause-wrote : goal.returns-in_default-clause-wrote
returns-in_default-clause-wrote c =
    wrote_as c.list_plainly.ensures.wrote
    (ap (rows_of c.args.heading.item c.args.heading.code) c.as_chunks.ensures.front ∙ segments_are c.args.numbers.now c.args.heading.item c.args.heading.code _ (omega arith))
