use Rattle.std.proofs.Common.{◌≡◌, ◌+◌, length}
use Rattle.canonical_sheets.specs.Canonical.{items_from, pairs_end, together}
use Rattle.canonical_sheets.proofs.written.canonical_length.Given as goal

abbrev pub invariant-loop-i : goal.invariant-loop-i
invariant-loop-i l = l.end ≡ pairs_end l.sheet.items.count + length (together (items_from l.sheet.items.sheet.now 0 l.i))
