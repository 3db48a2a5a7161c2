use mathlib.Core.Path.{◌≡◌, sym, ◌∙◌}
use Rattle.roof_rows.proofs.Lines.{no_rows}
use Rattle.standard.specs.Arrangements.{exists}
use Rattle.text.proofs.Writing.{none, wrote_as}
use Rattle.roof_rows.proofs.list_code.Goals as goal
use Rattle.roof_rows.proofs.list_code.Goals.{After-has}

told : (c : After-has) → c.has.result ≡ exists c.args.figures.now.site c.args.figures.now.roof c.args.code
unfolding exists
told c = rw (c.requires.codes.0, c.requires.codes.1, c.requires.codes.2) at c.has.ensures

pub returns-then-not-has-clause-wrote : goal.returns-then-not-has-clause-wrote
returns-then-not-has-clause-wrote c =
    wrote_as (none _)
    (no_rows c.args.figures.now.national _ _ c.args.item c.args.code (sym (told (goal.at.returns-then-not-has-clause-wrote c).After-has) ∙ c.if-not-has.true))

pub list_arrangement-requires-clause-found : goal.list_arrangement-requires-clause-found
list_arrangement-requires-clause-found c =
    rw (c.of.ensures.0, c.of.ensures.1)
    (sym (told (goal.at.list_arrangement-requires-clause-found c).After-has) ∙ c.if-not-has.false)
