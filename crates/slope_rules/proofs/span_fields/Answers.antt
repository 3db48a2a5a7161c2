use Prim.Native.Nat.{◌*◌}
use mathlib.Core.Path.{◌≡◌, ◌∙◌}
use Rattle.figures.specs.RoofRules.{slopes_fields}
use Rattle.figures.proofs.Counted.{slopes_counted, valleys_counted}
use Rattle.slope_rules.proofs.span_fields.Goals as goal
use Rattle.slope_rules.proofs.span_fields.Goals.{After-slopes_fields}

slopes : (c : After-slopes_fields) → c.slopes_fields.result ≡ slopes_fields c.args.spans.now (2 * c.args.n)
slopes c = c.slopes_fields.ensures ∙ slopes_counted _ _

pub returns-then-not-drifts : goal.returns-then-not-drifts
returns-then-not-drifts c = rw (← slopes (goal.at.returns-then-not-drifts c).After-slopes_fields, c.if-slopes_fields.true, c.if-not-drifts.true)

pub returns-else-not-drifts : goal.returns-else-not-drifts
returns-else-not-drifts c =
    rw (← slopes (goal.at.returns-else-not-drifts c).After-slopes_fields, c.if-slopes_fields.true, c.if-not-drifts.false)
    (c.valleys_fields.ensures ∙ valleys_counted _ _)

pub returns-else-slopes_fields : goal.returns-else-slopes_fields
returns-else-slopes_fields c = rw (← slopes (goal.at.returns-else-slopes_fields c).After-slopes_fields, c.if-slopes_fields.false)
