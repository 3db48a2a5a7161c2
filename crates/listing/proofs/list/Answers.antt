use Rattle.listing.proofs.Bounds.{too_small, all_written}
use mathlib.Core.Path.{◌≡◌, sym, ◌∙◌}
use Prim.Native.Nat.{◌≤◌}
use lib.ListN.{length}
use Rattle.listing.specs.Listing.{listed, bytes_after}
use native.Mathlib.Omega.{arith}
use Rattle.listing.proofs.list.Goals as goal
use Rattle.listing.proofs.list.Goals.{After-list_any}

pub returns-then-short : goal.returns-then-short
returns-then-short c =
    let e = too_small c.args.store.now c.args.sheet.now c.args.out.now (omega arith) in record { answer = e.0; written = e.1; within = omega arith; free = tt }

written :
    (c : After-list_any)
    → (c.list_any.new.out.at ≡ listed c.args.store.now c.args.sheet.now (length c.args.out.now))
    × ((c.list_any.new.out.bytes.now ≡ bytes_after c.args.store.now c.args.sheet.now c.args.out.now) × (c.list_any.new.out.at ≤ length c.list_any.new.out.bytes.now))
written c = all_written c.args.store.now c.args.sheet.now c.args.out.now c.new-writer.ensures.front.0 c.new-writer.ensures.front.1 (omega arith) c.list_any.ensures

pub returns : goal.returns
returns c =
    let w = written (goal.at.returns c).After-list_any in
    let same = sym (c.list_any.ensures.same ∙ c.new-writer.ensures.same_bytes) in
    record { answer = w.0; written = grind (arith, same, w.1.0); within = grind (arith, same, w.1.1); free = tt }
