-- Two sheets of alike items and one site: the same national figures and roofs, and the same answer of every call on an item.
use Prim.Native.Nat.{ℕ, zero, suc, ◌<◌}
use mathlib.Core.Bool.{Bool, true, false, cond}
use mathlib.Core.List.{List}
use mathlib.Core.Path.{◌≡◌, refl, ap, ◌∙◌}
use borrow.Author.Tests.{ltb-true}
use lib.Dec.{ltb}
use native.Mathlib.Omega.{arith}
use Rattle.std.specs.Prelude.{Result, Ok, Err}
use Rattle.ceilings.specs.Ceilings.{terminals}
use Rattle.figures.specs.RoofRules.{roof_of}
use Rattle.figures.specs.Spans.{no_spans}
use Rattle.figures.specs.Store.{figures_in_use}
use Rattle.figures.specs.declared.refusal.Refusal.{Refusal}
use Rattle.figures.specs.declared.roof.Roof.{Roof}
use Rattle.figures.specs.declared.roof.Shape.{Shape}
use Rattle.figures.specs.declared.site.Site.{Site}
use Rattle.item_forms.specs.declared.Item.{Item}
use Rattle.item_forms.specs.declared.Item.TheVariants.{SiteItem, RoofItem, LowerItem}
use Rattle.item_rules.specs.Figures.{roof_by}
use Rattle.items.specs.Items.{content}
use Rattle.pairs.specs.Pairs.{Answer, accepted, refused, offset, size, part}
use Rattle.sheet.proofs.Alike.{AlikeSheets, same_by, same_verdict, counted, above_below}
use Rattle.sheet.specs.Sheet.{sheet_verdict, place_by, place}
use Rattle.sheet_figures.specs.Find.{sheet_site, sheet_national, sheet_roof, found_in, found_by, found}
use Rattle.stepped_roofs.specs.Stepped.{upper_shape, stepped_shape}
use Rattle.upper_items.specs.Uppers.{item_at, upper_index}

module _ {store s t : List ℕ} {n : ℕ} (g : AlikeSheets store terminals s t n) (same_site : sheet_site s ≡ sheet_site t) where
  pub same_national : sheet_national store s ≡ sheet_national store t
  unfolding sheet_national
  same_national = ap (λ (x : Site). figures_in_use store x.day) same_site

  module _ (m : ℕ) (v : sheet_verdict store terminals s ≡ accepted m) where
    pub same_roof : (i : ℕ) → 0 < i → i < n → sheet_roof s i ≡ sheet_roof t i
    unfolding sheet_roof
    same_roof i a b =
        let e = same_by g upper_shape (λ x y. refl) (upper_index (item_at s i)) (above_below g m v i b) in
        by_upper (part s i) (item_at s i) _ _ e
        ∙ ap (λ (p : List ℕ). roof_by p (content p) (item_at t (upper_index (content p)))) (g.others i a b)
      where
        by_upper : (p : List ℕ) (x y z : Result Item Refusal) → upper_shape y ≡ upper_shape z → roof_by p x y ≡ roof_by p x z
        by_upper p (Ok (SiteItem fields)) y z e = refl
        by_upper p (Ok (RoofItem shape)) y z e = refl
        by_upper p (Ok (LowerItem lower)) y z e = ap {B = Roof} (λ (shape : Shape). roof_of (stepped_shape lower shape) no_spans) e
        by_upper p (Err refusal) y z e = refl

    same_in : (i : ℕ) → i < n → found_in store s i ≡ found_in store t i
    same_in zero h = rw (same_national, same_site)
    same_in (suc i) h = rw (same_national, same_site, same_roof (suc i) (omega arith) h)

  module _ (i : ℕ) where
    by_index :
        (m : ℕ) → sheet_verdict store terminals s ≡ accepted m → (b : Bool) → ltb i n ≡ b
        → found_by (cond b (accepted (record { start = offset s i; bytes = size s i })) (refused 12 i)) store s i
        ≡ found_by (cond b (accepted (record { start = offset t i; bytes = size t i })) (refused 12 i)) store t i
    by_index m v true e = ap accepted (same_in m v i (ltb-true i n e))
    by_index m v false e = refl

    by_verdict : (v : Answer ℕ) → sheet_verdict store terminals s ≡ v → found_by (place_by v s i) store s i ≡ found_by (place_by v t i) store t i
    unfolding place_by
    by_verdict (refused number item) e = refl
    by_verdict (accepted m) e = rw (counted g m e) (by_index m e (ltb i n) refl)

    -- every call on an item has the same figures, or the same refusal
    pub same_found : found store s i ≡ found store t i
    unfolding found place
    same_found = by_verdict (sheet_verdict store terminals s) refl ∙ ap (λ (v : Answer ℕ). found_by (place_by v t i) store t i) (same_verdict g)
