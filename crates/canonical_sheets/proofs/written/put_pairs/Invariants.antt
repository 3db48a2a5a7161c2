use Rattle.std.proofs.Common.{◌≡◌, ◌+◌, length}
use Rattle.text.specs.Written.{Wrote}
use Rattle.canonical_sheets.specs.Canonical.{items_from, pairs_from, pairs_end, together}
use Rattle.canonical_sheets.proofs.written.put_pairs.Given as goal

abbrev pub invariant-loop-i : goal.invariant-loop-i
invariant-loop-i l =
    Wrote l.initial.out (pairs_from (pairs_end l.sheet.items.count) (items_from l.sheet.items.sheet.now 0 l.i)) l.out
    × (l.offset ≡ pairs_end l.sheet.items.count + length (together (items_from l.sheet.items.sheet.now 0 l.i)))
