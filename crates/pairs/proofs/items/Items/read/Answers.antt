use Rattle.std.proofs.Common.{sym}
use Rattle.ceilings.proofs.Limits.{below_terminals}
use Rattle.ceilings.specs.Ceilings.{ceiling_of}
use Rattle.pairs.proofs.Kept.{pairs_kept, parts_in}
use native.Mathlib.Omega.{arith}
use Rattle.pairs.proofs.items.Items.read.Goals as goal

pub invariant_of-result : goal.invariant_of-result
invariant_of-result c =
    let e = rw c.ceiling.ensures at c.in_ok-count.ensures in
    let k = pairs_kept (ceiling_of c.args.caller) c.args.sheet.now c.in_ok-count.count (sym e) in
    record { in_sheet = parts_in k; few = omega (arith, k.fit.items, (below_terminals c.args.caller).items) }
