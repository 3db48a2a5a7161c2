-- Two sheets of alike items and one site are listed alike.
use Prim.Native.Nat.{ℕ, zero, suc, ◌-◌, ◌≤◌}
use mathlib.Core.List.{List}
use mathlib.Core.Path.{◌≡◌, refl, ap, ◌∙◌}
use lib.ListN.{get_or}
use native.Mathlib.Omega.{arith}
use Rattle.listing.specs.Listing.{listing_by, listing}
use Rattle.ceilings.specs.Ceilings.{terminals}
use Rattle.pairs.specs.Pairs.{Answer, accepted, refused}
use Rattle.sheet.specs.Sheet.{sheet_verdict}
use Rattle.sheet.proofs.Alike.{AlikeSheets, same_verdict, same_order, counted}
use Rattle.sheet.proofs.Kept.{sheet_ordered}
use Rattle.sheet_figures.proofs.Alike.{same_national, same_roof}
use Rattle.sheet_figures.specs.Find.{sheet_site, sheet_national}
use Rattle.sheet_rows.specs.SheetRows.{item_rows, roofs_rows}
use Rattle.upper_items.specs.Uppers.{roof_order}

module _ {store s t : List ℕ} {n : ℕ} (g : AlikeSheets store terminals s t n) (same_site : sheet_site s ≡ sheet_site t) where
  same_rows :
      sheet_verdict store terminals s ≡ accepted n → (k : ℕ) → k ≤ n - 1
      → roofs_rows (sheet_national store s) s (roof_order s n) k ≡ roofs_rows (sheet_national store t) t (roof_order s n) k
  unfolding roofs_rows item_rows
  same_rows v zero h = refl
  same_rows v (suc k) h =
      let p = (sheet_ordered store terminals s n v).roof k (omega arith) in
      rw (same_rows v k (omega arith), same_national g same_site, same_site, same_roof g same_site n v (get_or (roof_order s n) k 0) p.0 p.1)

  by_verdict : (v : Answer ℕ) → sheet_verdict store terminals s ≡ v → listing_by store v s ≡ listing_by store v t
  unfolding listing_by
  by_verdict (refused number item) e = refl
  by_verdict (accepted m) e =
      let c = counted g m e in
      rw (c, same_rows (rw c at e) (n - 1) (omega arith), same_order g)

  pub same_listing : listing store s ≡ listing store t
  unfolding listing
  same_listing = by_verdict (sheet_verdict store terminals s) refl ∙ ap (λ (v : Answer ℕ). listing_by store v t) (same_verdict g)
