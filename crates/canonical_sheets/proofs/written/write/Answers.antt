use Rattle.std.proofs.Common.{rules}
use mathlib.Core.Path.{◌≡◌, refl, ap, sym, ◌∙◌}
use lib.ListN.{length}
use native.Mathlib.Omega.{arith}
use Rattle.pairs.specs.Pairs.{accepted}
use Rattle.text.proofs.Writing.{at_front}
use Rattle.canonical_sheets.proofs.Answers.{sheet_refused, in_ceiling, no_room, has_room}
use Rattle.canonical_sheets.specs.Canonical.{canonical, canonical_after}
use Rattle.canonical_sheets.proofs.written.write.Goals as goal
use Rattle.canonical_sheets.proofs.written.write.Goals.{After-canonical_length-length}

pub returns-in_err-sheet-clause-value : goal.returns-in_err-sheet-clause-value
returns-in_err-sheet-clause-value c =
    let e = sheet_refused _ _ (length c.args.out.now) _ _ c.in_err-sheet.ensures in
    search rules

pub returns-in_err-sheet-clause-written : goal.returns-in_err-sheet-clause-written
unfolding canonical_after
returns-in_err-sheet-clause-written c = search rules

has : (c : After-canonical_length-length) → c.canonical_length-length.result ≡ length (canonical c.args.sheet.now)
has c = rw c.in_ok-sheet.ensures.1 at c.canonical_length-length.ensures

pub returns-then-short-clause-value : goal.returns-then-short-clause-value
returns-then-short-clause-value c =
    let n = has (goal.at.returns-then-short-clause-value c).After-canonical_length-length in
    let e = no_room _ _ _ c.in_ok-sheet.ensures.2 (length c.args.out.now) (omega arith) in
    search rules

pub returns-then-short-clause-written : goal.returns-then-short-clause-written
unfolding canonical_after
returns-then-short-clause-written c = refl

pub returns-clause-value : goal.returns-clause-value
returns-clause-value c =
    let n = has (goal.at.returns-clause-value c).After-canonical_length-length in
    ap accepted n ∙ has_room _ _ _ c.in_ok-sheet.ensures.2 (length c.args.out.now) (omega arith)

pub returns-clause-written : goal.returns-clause-written
unfolding canonical_after
returns-clause-written c =
    let n = has (goal.at.returns-clause-written c).After-canonical_length-length in
    let w = at_front _ _ (rw c.in_ok-sheet.ensures.1 at c.put_sheet.ensures) c.new.ensures.front.0 c.new.ensures.front.1 (omega arith) in
    let same = sym (c.put_sheet.ensures.same ∙ c.new.ensures.same_bytes) in
    grind (arith, same, n, w.0, w.1)

pub returns-clause-few : goal.returns-clause-few
returns-clause-few c =
    let n = has (goal.at.returns-clause-few c).After-canonical_length-length in
    omega (arith, in_ceiling _ _ _ c.in_ok-sheet.ensures.2)
