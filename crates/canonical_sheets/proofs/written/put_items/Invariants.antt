use Rattle.text.specs.Written.{Wrote}
use Rattle.canonical_sheets.specs.Canonical.{items_from, together}
use Rattle.canonical_sheets.proofs.written.put_items.Given as goal

abbrev pub invariant-loop-i : goal.invariant-loop-i
invariant-loop-i l = Wrote l.initial.out (together (items_from l.sheet.items.sheet.now 0 l.i)) l.out
