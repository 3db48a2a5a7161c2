use mathlib.Core.Path.{refl}
use Rattle.text.proofs.Writing.{short, then, room}
use native.Mathlib.Omega.{arith}
use Rattle.text.proofs.writer.Writer.put_field.Goals as goal

pub bounds-self-self : goal.bounds-self-self
bounds-self-self c = omega (arith, short c.args.number, room c.put_number.ensures)

pub overflow_add-self : goal.overflow_add-self
overflow_add-self c = omega (arith, short c.args.number, room c.put_number.ensures)

pub returns-clause-wrote : goal.returns-clause-wrote
returns-clause-wrote c = then c.put_number.ensures (record { bytes = refl; end = refl; same = refl })

pub returns-clause-upper_bound : goal.returns-clause-upper_bound
returns-clause-upper_bound c = omega (arith, short c.args.number)
