use Prim.Native.Nat.{◌+◌, ◌*◌}
use mathlib.Core.Path.{ap, sym, ◌∙◌, ◌≡◌}
use lib.ListN.{length}
use native.Mathlib.Omega.{arith}
use Rattle.pairs.specs.Pairs.{part}
use Rattle.text.proofs.Writing.{then, none, room, wrote_as}
use Rattle.canonical_sheets.proofs.Growing.{no_pairs, no_items, pairs_more, length_more, part_whole, size_most, short_so_far, some_pairs, all_items, word_bytes}
use Rattle.canonical_sheets.specs.Canonical.{items_from, pairs_from, pairs_end, together}
use Rattle.canonical_sheets.proofs.written.put_pairs.Goals as goal

pub loop-i-init : goal.loop-i-init
loop-i-init c =
    let s = c.args.sheet.items.sheet.now in
    (wrote_as (none _) (sym (no_pairs s (pairs_end c.args.sheet.items.count))), omega (arith, ap length (no_items s)))

pub overflow_cast-pair : goal.overflow_cast-pair
overflow_cast-pair c = omega (arith, short_so_far _ _ _ c.args.sheet.accepted c.loop-i.i (omega arith), c.loop-i.invariant.1)

pub put_bytes-requires : goal.put_bytes-requires
put_bytes-requires c =
    let w = c.loop-i.invariant.0 in
    omega (arith, w.end, room w, ap length c.to_le_bytes.ensures, some_pairs c.args.sheet.items.sheet.now (pairs_end c.args.sheet.items.count) c.loop-i.i)

pub loop-i-preserved : goal.loop-i-preserved
loop-i-preserved c =
    let a = c.args.sheet in
    let i = c.loop-i.i in
    let s = a.items.sheet.now in
    let size : c.pair-old.result.size ≡ length (part s i) = c.pair-old.ensures.1 ∙ sym (part_whole _ _ _ a.accepted i (omega arith)) in
    let start = pairs_end a.items.count + length (together (items_from s 0 i)) in
    let word : c.join.result ≡ start + 65536 * length (part s i) = omega (arith, c.join.ensures.0, c.loop-i.invariant.1, size) in
    let bytes =
    c.to_le_bytes.ensures
    ∙ word_bytes c.join.result start (length (part s i)) word
    (omega (arith, short_so_far _ _ _ a.accepted i (omega arith))) (omega (arith, size_most _ _ _ a.accepted i (omega arith), c.pair-old.ensures.1, size)) in (
      wrote_as (then c.loop-i.invariant.0 (wrote_as c.put_bytes.ensures bytes)) (pairs_more s i (pairs_end a.items.count)),
      omega (arith, c.loop-i.invariant.1, size, length_more s i),
    )

pub returns : goal.returns
returns c =
    let e : c.loop-i.i ≡ c.args.sheet.items.count = omega arith in
    wrote_as (rw e at c.loop-i.invariant.0) (ap (pairs_from (pairs_end c.args.sheet.items.count)) (all_items _ _ _ c.args.sheet.accepted))
