use Rattle.std.proofs.Common.{rules}
use mathlib.Core.Path.{◌≡◌, ap, ◌∙◌}
use Rattle.pairs.specs.Pairs.{accepted}
use Rattle.sheet.specs.Sheet.{Place, place_by}
use Rattle.sheet_figures.proofs.Sound.{sheet_refused, index_refused, index_below, item_found}
use Rattle.sheet_figures.proofs.find.Goals as goal
use Rattle.sheet_figures.proofs.find.Goals.{In_ok-pair}

pub returns-in_err-sheet : goal.returns-in_err-sheet
returns-in_err-sheet c =
    let e = sheet_refused c.args.store.now c.args.s.now c.args.index _ _ c.in_err-sheet.ensures in
    search rules

pub returns-in_err-pair : goal.returns-in_err-pair
returns-in_err-pair c =
    let f = rw c.in_ok-sheet.ensures.1 at c.in_err-pair.ensures in
    let e = index_refused c.args.store.now c.args.s.now c.args.index _ _ _ c.in_ok-sheet.ensures.2 f in
    search rules

abbrev there : In_ok-pair → Place
there c = record { start = c.in_ok-pair.field-0.offset; bytes = c.in_ok-pair.field-0.size }

at : (c : In_ok-pair) → accepted (there c) ≡ place_by (accepted c.in_ok-sheet.sheet.items.count) c.args.s.now c.args.index
at c = rw c.in_ok-sheet.ensures.1 at c.in_ok-pair.ensures

pub found_in-requires : goal.found_in-requires
found_in-requires c = index_below c.args.store.now _ _ _ _ c.in_ok-sheet.ensures.2 (at (goal.at.found_in-requires c).In_ok-pair)

pub returns : goal.returns
returns c =
    let f = rw (c.in_ok-sheet.ensures.0, c.in_ok-sheet.ensures.1) at c.found_in.ensures in
    ap accepted f ∙ item_found _ _ _ _ _ c.in_ok-sheet.ensures.2 (at (goal.at.returns c).In_ok-pair)
