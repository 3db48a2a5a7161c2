-- How long a listing can be: the room that is asked for holds the listing of any sheet.
use Prim.Native.Nat.{ℕ, ◌-◌, ◌≤◌, ◌<◌}
use mathlib.Core.List.{List}
use mathlib.Core.Path.{◌≡◌, refl, ap}
use borrow.Author.Tests.{eq-eqb, lt-ltb, le-ltb}
use lib.ListN.{length, length-append}
use native.Mathlib.Omega.{arith}
use Rattle.plain_rows.specs.Words.{header}
use Rattle.listing.specs.Listing.{listing_by, listing, list_room, listed, bytes_after}
use Rattle.ceilings.specs.Ceilings.{terminals}
use Rattle.pairs.specs.Pairs.{Answer, accepted, refused}
use Rattle.sheet.specs.Sheet.{sheet_verdict}
use Rattle.sheet_figures.specs.Find.{sheet_national}
use Rattle.sheet_rows.specs.SheetRows.{roofs_rows}
use Rattle.sheet_rows.proofs.Accepted.{all_short}
use Rattle.text.proofs.Writing.{short, at_front, room}
use Rattle.text.specs.Written.{Wrote}
use Rattle.text.specs.declared.writer.Writer.{Writer}
use Rattle.upper_items.specs.Uppers.{roof_order}

-- the room is enough for the listing of any sheet
listing_by_lem : (store sheet : List ℕ) (v : Answer ℕ) → sheet_verdict store terminals sheet ≡ v → length (listing_by store v sheet) ≤ list_room
unfolding listing_by
listing_by_lem store sheet (accepted n) h =
    omega (arith, length-append header (roofs_rows (sheet_national store sheet) sheet (roof_order sheet n) (n - 1)), all_short store sheet n (rw h (eq-eqb n n refl)))
listing_by_lem store sheet (refused number item) h = simp length-append (omega (arith, short number, short item))

pub listing_short : (store sheet : List ℕ) → length (listing store sheet) ≤ list_room
unfolding listing
listing_short store sheet = listing_by_lem store sheet (sheet_verdict store terminals sheet) refl

-- what the public call answers and leaves
module _ (store sheet old : List ℕ) where
  pub too_small : length old < list_room → (0 ≡ listed store sheet (length old)) × (old ≡ bytes_after store sheet old)
  unfolding listed bytes_after
  too_small h = (rw (lt-ltb (length old) list_room h), rw (lt-ltb (length old) list_room h))

  pub listing_is : (v : Answer ℕ) → v ≡ sheet_verdict store terminals sheet → listing_by store v sheet ≡ listing store sheet
  unfolding listing
  listing_is v e = ap (λ (a : Answer ℕ). listing_by store a sheet) e

  pub all_written :
      {a b : Writer} → a.bytes.now ≡ old → a.at ≡ 0 → list_room ≤ length old → Wrote a (listing store sheet) b
      → (b.at ≡ listed store sheet (length old)) × ((b.bytes.now ≡ bytes_after store sheet old) × (b.at ≤ length b.bytes.now))
  unfolding listed bytes_after
  all_written {a} {b} f z h x =
      let t = le-ltb (length old) list_room h in
      let s : length a.bytes.now ≡ length old = ap length f in
      let w = at_front (listing store sheet) old x f z (omega (arith, listing_short store sheet)) in (
        rw t w.0,
        (
          rw t (rw w.0 at w.1),
          omega (arith, w.0, listing_short store sheet, room x),
        ),
      )
