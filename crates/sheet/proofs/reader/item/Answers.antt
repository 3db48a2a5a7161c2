use mathlib.Core.Path.{sym}
use native.Mathlib.Omega.{arith}
use Rattle.sheet.proofs.Kept.{located}
use Rattle.sheet.proofs.reader.item.Goals as goal

pub slice_bounds-result-end : goal.slice_bounds-result-end
slice_bounds-result-end c = omega (arith, (located _ _ _ _ _ (sym c.in-Ok.ensures)).within)
