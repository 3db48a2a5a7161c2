use Rattle.roof_rows.specs.Rows.{roof_rows}
use Rattle.text.proofs.Writing.{then, room}
use native.Mathlib.Omega.{arith}
use Rattle.roof_rows.proofs.list_roof.Goals as goal

pub list_forces-requires : goal.list_forces-requires
list_forces-requires c = omega (arith, room c.list_codes.ensures.wrote)

pub returns-clause-wrote : goal.returns-clause-wrote
unfolding roof_rows
returns-clause-wrote c = then c.list_codes.ensures.wrote (rw (c.sited.ensures.0, c.sited.ensures.1) at c.list_forces.ensures.wrote)
