use Rattle.force_rows.specs.Rows.{slope_rows}
use Rattle.text.proofs.Writing.{then}
use Rattle.force_rows.proofs.list_slope.Goals as goal

pub returns-clause-wrote : goal.returns-clause-wrote
unfolding slope_rows
returns-clause-wrote c =
    then (rw c.overhang_at.ensures at c.put_force.ensures.wrote) (rw c.guard_force_at.ensures at c.put_force-2.ensures.wrote)
