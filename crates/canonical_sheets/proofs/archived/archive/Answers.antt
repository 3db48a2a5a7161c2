use mathlib.Core.Path.{ap, sym, ◌∙◌}
use lib.ListN.{length}
use native.Mathlib.Omega.{arith}
use Rattle.text.proofs.Writing.{at_front}
use Rattle.canonical_sheets.proofs.Answers.{archived_short}
use Rattle.canonical_sheets.proofs.archived.archive.Goals as goal

pub put_archived-requires : goal.put_archived-requires
put_archived-requires c = omega (arith, ap length c.new-writer.ensures.front.0)

pub returns-clause-value : goal.returns-clause-value
returns-clause-value c = omega (arith, c.put_archived.ensures.end, c.new-writer.ensures.front.1)

pub returns-clause-written : goal.returns-clause-written
returns-clause-written c =
    let w = at_front _ _ c.put_archived.ensures c.new-writer.ensures.front.0 c.new-writer.ensures.front.1 (omega (arith, archived_short c.args.store.now c.args.sheet.now)) in
    let same = sym (c.put_archived.ensures.same ∙ c.new-writer.ensures.same_bytes) in
    grind (arith, same, w.0, w.1)
