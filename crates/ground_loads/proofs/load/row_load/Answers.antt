use mathlib.Core.Path.{◌∙◌}
use Rattle.ground_loads.proofs.Rows.{load_by_lem}
use Rattle.ground_loads.proofs.load.row_load.Goals as goal

pub returns-in-Square : goal.returns-in-Square
returns-in-Square c = c.square_load.ensures ∙ load_by_lem _ _ _ c.args.row _ c.in-Square.is c.zone_load-base.ensures.0

pub returns-in-Linear : goal.returns-in-Linear
returns-in-Linear c = c.linear_load.ensures ∙ load_by_lem _ _ _ c.args.row _ c.in-Linear.is c.zone_load-base.ensures.0
