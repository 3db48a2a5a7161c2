use mathlib.Core.Path.{sym}
use native.Mathlib.Omega.{arith}
use Rattle.ceilings.specs.Ceilings.{terminals}
use Rattle.sheet.proofs.Kept.{sheet_named}
use Rattle.text.proofs.Writing.{wrote_as}
use Rattle.canonical_sheets.proofs.Answers.{in_ceiling, archived_is}
use Rattle.canonical_sheets.specs.Canonical.{archived_by}
use Rattle.canonical_sheets.proofs.archived.put_archived.Goals as goal

pub put_sheet-requires : goal.put_sheet-requires
put_sheet-requires c = rw c.in-Ok.ensures.1 (omega (arith, in_ceiling _ _ _ c.in-Ok.ensures.2))

pub put_refused-requires : goal.put_refused-requires
put_refused-requires c = (omega arith, omega (arith, sheet_named _ terminals _ _ _ c.in-Err.ensures))

pub returns-in-Ok : goal.returns-in-Ok
unfolding archived_by
returns-in-Ok c = wrote_as (rw c.in-Ok.ensures.1 at c.put_sheet.ensures) (archived_is c.args.store.now c.args.sheet.now _ (sym c.in-Ok.ensures.2))

pub returns-in-Err : goal.returns-in-Err
unfolding archived_by
returns-in-Err c =
    let text = rw c.from.ensures at c.put_refused.ensures in
    wrote_as text (archived_is c.args.store.now c.args.sheet.now _ (sym c.in-Err.ensures))
