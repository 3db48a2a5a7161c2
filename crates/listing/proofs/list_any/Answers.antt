use mathlib.Core.Path.{sym}
use Rattle.ceilings.specs.Ceilings.{terminals}
use Rattle.sheet.proofs.Kept.{sheet_named}
use Rattle.listing.specs.Listing.{listing_by}
use Rattle.listing.proofs.Bounds.{listing_is}
use Rattle.text.proofs.Writing.{wrote_as, then}
use native.Mathlib.Omega.{arith}
use Rattle.listing.proofs.list_any.Goals as goal

pub put_refused-requires : goal.put_refused-requires
put_refused-requires c = (omega arith, omega (arith, sheet_named _ terminals _ _ _ c.in-Err.ensures))

pub returns-in-Ok : goal.returns-in-Ok
unfolding listing_by
returns-in-Ok c =
    let text = rw (c.in-Ok.ensures.0, c.in-Ok.ensures.1) at c.list_roofs.ensures in
    wrote_as (then c.put_header.ensures text) (listing_is c.args.store.now c.args.sheet.now c.args.out.now.bytes.now _ (sym c.in-Ok.ensures.2))

pub returns-in-Err : goal.returns-in-Err
unfolding listing_by
returns-in-Err c =
    let text = rw c.from.ensures at c.put_refused.ensures in
    wrote_as text (listing_is c.args.store.now c.args.sheet.now c.args.out.now.bytes.now _ (sym c.in-Err.ensures))
