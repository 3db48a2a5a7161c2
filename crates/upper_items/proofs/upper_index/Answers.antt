use mathlib.Core.Path.{sym, ◌∙◌}
use Rattle.items.proofs.Lowers.{lower_length}
use Rattle.upper_items.proofs.Lowers.{upper_byte}
use native.Mathlib.Omega.{arith}
use Rattle.upper_items.proofs.upper_index.Goals as goal

pub bounds-p-9 : goal.bounds-p-9
bounds-p-9 c = omega (arith, lower_length _ (sym c.is_lower.ensures ∙ c.if-is_lower.true))

pub returns-then-is_lower : goal.returns-then-is_lower
returns-then-is_lower c = upper_byte _ (sym c.is_lower.ensures ∙ c.if-is_lower.true)
