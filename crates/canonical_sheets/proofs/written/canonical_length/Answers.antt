use Prim.Native.Nat.{◌+◌}
use mathlib.Core.Path.{◌≡◌, ap}
use lib.ListN.{length}
use native.Mathlib.Omega.{arith}
use Rattle.canonical_sheets.proofs.Growing.{no_items, length_more, part_whole, short_so_far, whole}
use Rattle.canonical_sheets.proofs.written.canonical_length.Goals as goal

pub loop-i-init : goal.loop-i-init
loop-i-init c = omega (arith, ap length (no_items c.args.sheet.items.sheet.now))

pub overflow_add-end : goal.overflow_add-end
overflow_add-end c =
    let a = c.args.sheet in
    omega (
      arith,
      length_more a.items.sheet.now c.loop-i.i,
      part_whole _ _ _ a.accepted c.loop-i.i (omega arith),
      short_so_far _ _ _ a.accepted (c.loop-i.i + 1) (omega arith),
    )

pub loop-i-preserved : goal.loop-i-preserved
loop-i-preserved c =
    omega (arith, length_more c.args.sheet.items.sheet.now c.loop-i.i, part_whole _ _ _ c.args.sheet.accepted c.loop-i.i (omega arith))

pub returns : goal.returns
returns c =
    let e : c.loop-i.i ≡ c.args.sheet.items.count = omega arith in
    omega (arith, rw e at c.loop-i.invariant, whole _ _ _ c.args.sheet.accepted)
