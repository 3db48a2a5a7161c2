use mathlib.Core.Path.{◌∙◌}
use Rattle.figures.proofs.Counted.{steep_counted}
use Rattle.slope_rules.proofs.steep_valleys.Goals as goal

pub returns : goal.returns
returns c = c.steep_among.ensures ∙ steep_counted _ _
