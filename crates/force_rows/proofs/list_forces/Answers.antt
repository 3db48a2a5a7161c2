use mathlib.Core.Path.{sym, ◌∙◌}
use Rattle.force_rows.specs.Rows.{force_rows}
use Rattle.force_rows.proofs.Rows.{no_forces}
use Rattle.text.proofs.Writing.{then, none, wrote_as}
use Rattle.force_rows.proofs.list_forces.Goals as goal

pub returns-then-not-has_forces-clause-wrote : goal.returns-then-not-has_forces-clause-wrote
returns-then-not-has_forces-clause-wrote c =
    let sited = c.args.sited in
    wrote_as (none _)
    (no_forces sited.site sited.shape c.args.item
    (rw (c.from.ensures, c.kind.ensures) at (sym c.has_forces.ensures ∙ c.if-not-has_forces.true)))

pub returns-clause-wrote : goal.returns-clause-wrote
unfolding force_rows
returns-clause-wrote c = then c.list_slope.ensures.wrote c.list_slope-2.ensures.wrote
