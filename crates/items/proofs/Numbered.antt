-- What holds of every kind's item holds of what any bytes say: the law by cases over the kinds.
use Prim.Native.Nat.{ℕ, ◌+◌, ◌-◌, ◌*◌}
use mathlib.Core.Bool.{Bool, true, false, cond}
use mathlib.Core.List.{List}
use mathlib.Core.Path.{◌≡◌, refl, subst}
use borrow.Author.Tests.{eqb-true, eqb-false}
use lib.Dec.{eqb}
use lib.ListN.{length}
use native.Mathlib.Omega.{arith}
use Rattle.std.specs.Prelude.{Result, Ok, Err}
use Rattle.figures.specs.declared.refusal.Refusal.{Refusal}
use Rattle.figures.specs.declared.refusal.Refusal.TheVariants.{UnknownKind, ItemLength}
use Rattle.figures.specs.declared.roof.LowerRoof.{LowerRoof}
use Rattle.figures.specs.declared.roof.Shape.{Shape}
use Rattle.figures.specs.declared.site.SiteData.{SiteData}
use Rattle.little_endian.specs.Numbers.{byte_at}
use Rattle.item_forms.specs.declared.Item.{Item}
use Rattle.item_forms.specs.declared.Item.TheVariants.{SiteItem, RoofItem, LowerItem}
use Rattle.site_items.specs.SiteItems.{site_item, map_site_item}
use Rattle.roof_items.specs.RoofItems.{monopitch_item, pitched_item, cylindrical_item, abutting_item, projection_item, lower_item, parapet_item, small_projection_item}
use Rattle.span_items.specs.SpanItems.{SpansThere, SpansHeld, multi_span_item, drifted_item}
use Rattle.items.specs.Items.{by_kind, content}

-- a refusal, a site, a roof whose spans are there, and a lower roof, which has kind 10 and 11 bytes
module _ (P : Result Item Refusal → Type 0) (p : List ℕ) (refused : (e : Refusal) → P (Err e)) (site : (fields : SiteData) → P (Ok (SiteItem fields)))
    (roof : (shape : Shape) → SpansThere shape p → P (Ok (RoofItem shape)))
    (lower : (fields : LowerRoof) → byte_at p 0 ≡ 10 → length p ≡ 11 → P (Ok (LowerItem fields))) where
  either : (b : Bool) (d e : Result Item Refusal) → (b ≡ true → P d) → (b ≡ false → P e) → P (cond b d e)
  either true d e h k = h refl
  either false d e h k = k refl

  sized : (b : Bool) (item : Item) → (b ≡ true → P (Ok item)) → P (cond b (Ok item) (Err ItemLength))
  sized b item h = either b _ _ h (λ f. refused ItemLength)

  pub by_content : P (content p)
  unfolding
      content by_kind site_item monopitch_item pitched_item multi_span_item cylindrical_item abutting_item projection_item map_site_item drifted_item lower_item parapet_item
      small_projection_item
  by_content =
      let k = byte_at p 0 in
      either (eqb (length p) 0) _ _ (λ t. refused ItemLength)
      (λ f. either (eqb k 1) _ _ (λ t. sized _ _ (λ l. site _))
      (λ f. either (eqb k 2) _ _ (λ t. sized _ _ (λ l. roof _ tt))
      (λ f. either (eqb k 3) _ _ (λ t. sized _ _ (λ l. roof _ tt))
      (λ f. either (eqb k 4) _ _ (λ t. sized _ _ (λ l. roof _ (omega (arith, eqb-true (length p) (2 + 12 * byte_at p 1) l))))
      (λ f. either (eqb k 5) _ _ (λ t. sized _ _ (λ l. roof _ tt))
      (λ f. either (eqb k 6) _ _ (λ t. sized _ _ (λ l. roof _ tt))
      (λ f. either (eqb k 7) _ _ (λ t. sized _ _ (λ l. roof _ tt))
      (λ f. either (eqb k 8) _ _ (λ t. sized _ _ (λ l. site _))
      (λ f. either (eqb k 9) _ _
      (λ t. either (eqb (byte_at p 1) 0) _ _ (λ z. refused ItemLength)
      (λ z. sized _ _ (λ l. roof _ (omega (arith, eqb-false (byte_at p 1) 0 z), omega (arith, eqb-true (length p) (20 * byte_at p 1 - 6) l)))))
      (λ f. either (eqb k 10) _ _ (λ t. sized _ _ (λ l. lower _ (eqb-true k 10 t) (eqb-true (length p) 11 l)))
      (λ f. either (eqb k 11) _ _ (λ t. sized _ _ (λ l. roof _ tt))
      (λ f. either (eqb k 12) _ _ (λ t. sized _ _ (λ l. roof _ tt)) (λ f. refused UnknownKind)))))))))))))

-- the bytes of a roof's spans are there
pub spans_there : (p : List ℕ) {shape : Shape} → content p ≡ Ok (RoofItem shape) → SpansThere shape p
spans_there p {shape} e =
    by_content (λ (d : Result Item Refusal). (s : Shape) → d ≡ Ok (RoofItem s) → SpansThere s p) p (λ e s h. absurd (no_refusal h))
    (λ fields s h. absurd (no_site h)) (λ x t s h. subst (λ (y : Shape). SpansThere y p) (same h) t) (λ fields k l s h. absurd (no_lower h)) shape e
  where
    no_refusal : {e : Refusal} {s : Shape} → ◌≡◌ {A = Result Item Refusal} (Err e) (Ok (RoofItem s)) → ⊥
    no_refusal h = cc

    no_site : {fields : SiteData} {s : Shape} → ◌≡◌ {A = Result Item Refusal} (Ok (SiteItem fields)) (Ok (RoofItem s)) → ⊥
    no_site h = cc

    no_lower : {fields : LowerRoof} {s : Shape} → ◌≡◌ {A = Result Item Refusal} (Ok (LowerItem fields)) (Ok (RoofItem s)) → ⊥
    no_lower h = cc

    same : {x s : Shape} → ◌≡◌ {A = Result Item Refusal} (Ok (RoofItem x)) (Ok (RoofItem s)) → x ≡ s
    same h = cc

pub spans_held : (p : List ℕ) → SpansHeld (content p) p
spans_held p = by_content (λ (d : Result Item Refusal). SpansHeld d p) p (λ e. tt) (λ fields. tt) (λ shape t. t) (λ fields k l. tt)
