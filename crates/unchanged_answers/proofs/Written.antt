-- Document 02, A10: an accepted sheet, written in the one way, gets the same answer from every call.
use Prim.Native.Nat.{ℕ}
use mathlib.Core.Bool.{Bool, true, false, cond}
use mathlib.Core.List.{List}
use mathlib.Core.Path.{◌≡◌, refl, sym, ap, ◌∙◌}
use borrow.Author.Tests.{ltb-true}
use lib.Dec.{ltb}
use native.Mathlib.Omega.{arith}
use Rattle.answer_codes.specs.Codes.{answer_code}
use Rattle.canonical_sheets.specs.Canonical.{canonical}
use Rattle.canonical_sheets.proofs.Acceptance.{still_accepted, written_alike}
use Rattle.canonical_sheets.proofs.Same.{same_part, twice}
use Rattle.ceilings.specs.Ceilings.{terminals, ceiling_of}
use Rattle.ceilings.specs.declared.Caller.{Caller}
use Rattle.item_rules.specs.Figures.{site_by}
use Rattle.items.specs.Items.{content}
use Rattle.listing.proofs.Alike.{same_listing}
use Rattle.pairs.specs.Pairs.{accepted, refused, offset, size}
use Rattle.sheet.proofs.Alike.{AlikeSheets}
use Rattle.sheet.proofs.Kept.{sheet_kept}
use Rattle.sheet.specs.Sheet.{sheet_verdict, place_by, place, part_at}
use Rattle.sheet_figures.proofs.Alike.{same_found}
use Rattle.sheet_figures.specs.Find.{sheet_site}
use Rattle.unchanged_answers.specs.Alike.{ReadAlike, SheetAlike}
use Rattle.unchanged_answers.proofs.Alike.{sheet_alike}

module _ (store s : List ℕ) (n : ℕ) where
  -- for each caller that accepts the sheet
  module _ (caller : Caller) (e : sheet_verdict store (ceiling_of caller) s ≡ accepted n) where
    same_item :
        (i : ℕ) (b : Bool) → ltb i n ≡ b
        → part_at (cond b (accepted (record { start = offset (canonical s) i; bytes = size (canonical s) i })) (refused 12 i)) (canonical s)
        ≡ part_at (cond b (accepted (record { start = offset s i; bytes = size s i })) (refused 12 i)) s
    same_item i true f = same_part s i (omega (arith, ltb-true i n f, (sheet_kept store (ceiling_of caller) s n e).pairs.counted))
    same_item i false f = refl

    pub written_reading : ReadAlike caller store (canonical s) store s
    unfolding place place_by
    written_reading =
        let f = still_accepted store s (ceiling_of caller) n e in
        record {
          verdict = f ∙ sym e;
          items = λ i. rw (e, f) (same_item i (ltb i n) refl);
          snow_verdict = ap answer_code (f ∙ sym e);
        }

  -- "the same job": the listing, and every call on an item
  module _ (e : sheet_verdict store terminals s ≡ accepted n) where
    alike : AlikeSheets store terminals (canonical s) s n
    alike = written_alike s terminals n (sheet_kept store terminals s n e).passed store

    same_site : sheet_site (canonical s) ≡ sheet_site s
    unfolding sheet_site
    same_site =
        let k = (sheet_kept store terminals s n e).pairs in
        ap (λ (p : List ℕ). site_by (content p)) (same_part s 0 (omega (arith, k.counted, k.fit.some)))

    pub written_sheet : SheetAlike store (canonical s) store s
    written_sheet =
        sheet_alike _ _ _ _ (still_accepted store s terminals n e ∙ sym e) (same_found alike same_site) (same_listing alike same_site) (twice s)
