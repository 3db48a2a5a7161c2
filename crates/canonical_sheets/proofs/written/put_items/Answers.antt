use mathlib.Core.Path.{◌≡◌, ap, sym}
use lib.ListN.{length}
use native.Mathlib.Omega.{arith}
use Rattle.text.proofs.Writing.{then, none, room, wrote_as}
use Rattle.canonical_sheets.proofs.Growing.{no_items, items_more, all_items, room_for_next}
use Rattle.canonical_sheets.specs.Canonical.{together}
use Rattle.canonical_sheets.proofs.written.put_items.Goals as goal

pub loop-i-init : goal.loop-i-init
loop-i-init c = wrote_as (none _) (sym (no_items c.args.sheet.items.sheet.now))

pub put_bytes-requires : goal.put_bytes-requires
put_bytes-requires c =
    let w = c.loop-i.invariant in
    omega (arith, w.end, room w, ap length c.part.ensures, room_for_next _ _ _ c.args.sheet.accepted c.loop-i.i (omega arith))

pub loop-i-preserved : goal.loop-i-preserved
loop-i-preserved c =
    wrote_as (then c.loop-i.invariant (wrote_as c.put_bytes.ensures c.part.ensures)) (items_more c.args.sheet.items.sheet.now c.loop-i.i)

pub returns : goal.returns
returns c =
    let e : c.loop-i.i ≡ c.args.sheet.items.count = omega arith in
    wrote_as (rw e at c.loop-i.invariant) (ap together (all_items _ _ _ c.args.sheet.accepted))
