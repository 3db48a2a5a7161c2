use Prim.Native.Nat.{◌+◌, ◌*◌, ◌≤◌}
use Rattle.sheet_figures.specs.Find.{sheet_national}
use Rattle.text.specs.Written.{Wrote}
use Rattle.upper_items.specs.Uppers.{roof_order}
use Rattle.sheet_rows.specs.SheetRows.{roofs_rows}
use Rattle.sheet_rows.proofs.list_roofs.Given as goal

abbrev pub invariant-loop-k : goal.invariant-loop-k
invariant-loop-k l =
    Wrote l.initial.out (roofs_rows (sheet_national l.sheet.store.numbers.now l.sheet.items.sheet.now) l.sheet.items.sheet.now (roof_order l.sheet.items.sheet.now l.sheet.items.count) l.k) l.out
    × (l.out.at ≤ l.initial.out.at + 8624 * l.k)
