use mathlib.Core.Path.{sym, ◌∙◌}
use Rattle.upper_items.proofs.Lowers.{index_written}
use Rattle.upper_items.proofs.roof_order.Goals as goal

pub returns-else-has_lower : goal.returns-else-has_lower
returns-else-has_lower c =
    let e = rw (c.bytes.ensures, c.count.ensures.0) at c.has_lower.ensures in
    index_written _ _ _ (sym e ∙ c.if-has_lower.false) (rw c.count-else-has_lower.ensures.0 at c.list_by_index.ensures)
