-- An item: its first byte is its kind; fields follow in the order that documents 01 and 02 give.
use Rattle.std.specs.Prelude.{ℕ, cond, List, eqb, length, Result, Err}
use Rattle.figures.specs.declared.refusal.Refusal.{Refusal}
use Rattle.figures.specs.declared.refusal.Refusal.TheVariants.{UnknownKind, ItemLength}
use Rattle.little_endian.specs.Numbers.{byte_at}
use Rattle.item_forms.specs.declared.Item.{Item}
use Rattle.site_items.specs.SiteItems.{site_item, map_site_item}
use Rattle.roof_items.specs.RoofItems.{monopitch_item, pitched_item, cylindrical_item, abutting_item, projection_item, lower_item, parapet_item, small_projection_item}
use Rattle.span_items.specs.SpanItems.{multi_span_item, drifted_item}

-- by its kind; "3 unknown kind"
unfoldable pub by_kind : ℕ → List ℕ → Result Item Refusal
by_kind kind p =
    cond (eqb kind 1) (site_item p)
    (cond (eqb kind 2) (monopitch_item p)
    (cond (eqb kind 3) (pitched_item p)
    (cond (eqb kind 4) (multi_span_item p)
    (cond (eqb kind 5) (cylindrical_item p)
    (cond (eqb kind 6) (abutting_item p)
    (cond (eqb kind 7) (projection_item p)
    (cond (eqb kind 8) (map_site_item p)
    (cond (eqb kind 9) (drifted_item p)
    (cond (eqb kind 10) (lower_item p)
    (cond (eqb kind 11) (parapet_item p)
    (cond (eqb kind 12) (small_projection_item p)
    (Err UnknownKind))))))))))))

-- what an item's bytes say: "empty (4), 3, 4"
unfoldable pub content : List ℕ → Result Item Refusal
content p = cond (eqb (length p) 0) (Err ItemLength) (by_kind (byte_at p 0) p)
