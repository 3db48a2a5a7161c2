use mathlib.Core.Path.{ap, ◌∙◌}
use lib.ListN.{length}
use native.Mathlib.Omega.{arith}
use Rattle.text.proofs.Writing.{then, room, wrote_as}
use Rattle.canonical_sheets.proofs.Growing.{whole, all_items, parts, some_pairs, count_bytes}
use Rattle.canonical_sheets.specs.Canonical.{pairs_from, pairs_end, together}
use Rattle.canonical_sheets.proofs.written.put_sheet.Goals as goal

pub put_bytes-requires : goal.put_bytes-requires
put_bytes-requires c = omega (arith, whole _ _ _ c.args.sheet.accepted, ap length c.to_le_bytes.ensures)

pub put_pairs-requires : goal.put_pairs-requires
put_pairs-requires c =
    let w = c.put_bytes.ensures in
    omega (arith, whole _ _ _ c.args.sheet.accepted, ap length c.to_le_bytes.ensures, w.end, room w)

pub put_items-requires : goal.put_items-requires
put_items-requires c =
    let w = c.put_bytes.ensures in
    let v = c.put_pairs.ensures in
    let a = c.args.sheet.accepted in
    omega (
      arith,
      whole _ _ _ a,
      ap (λ l. length (together l)) (all_items _ _ _ a),
      ap length c.to_le_bytes.ensures,
      w.end,
      room w,
      v.end,
      room v,
      some_pairs c.args.sheet.items.sheet.now (pairs_end c.args.sheet.items.count) c.args.sheet.items.count,
      ap (λ l. length (pairs_from (pairs_end c.args.sheet.items.count) l)) (all_items _ _ _ a),
    )

pub returns : goal.returns
returns c =
    let count = wrote_as c.put_bytes.ensures (c.to_le_bytes.ensures ∙ count_bytes _ (omega arith)) in
    wrote_as (then (then (rw c.count-count.ensures.0 at count) c.put_pairs.ensures) c.put_items.ensures) (parts _ _ _ c.args.sheet.accepted)
