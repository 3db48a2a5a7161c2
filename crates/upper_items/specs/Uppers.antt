-- The upper items of a sheet, and the order in which its roofs are listed: document 02, A7.
use Rattle.std.specs.Prelude.{ℕ, Bool, cond, List, ltb, Result, Ok, Err}
use Rattle.std.specs.List.{list_any, range_with_len}
use Rattle.figures.specs.declared.refusal.Refusal.{Refusal}
use Rattle.items.specs.Items.{content}
use Rattle.item_forms.specs.Forms.{is_lower}
use Rattle.item_forms.specs.declared.Item.{Item}
use Rattle.item_forms.specs.declared.Item.TheVariants.{SiteItem, RoofItem, LowerItem}
use Rattle.pairs.specs.Pairs.{part}
use Rattle.order.specs.Order.{order}

-- what item i of a sheet says
abbrev pub item_at : List ℕ → ℕ → Result Item Refusal
item_at s i = content (part s i)

-- "the index of the upper item"; 0, the site's index, where an item has none
abbrev pub upper_index : Result Item Refusal → ℕ
upper_index (Ok (SiteItem fields)) = 0
upper_index (Ok (RoofItem shape)) = 0
upper_index (Ok (LowerItem lower)) = lower.upper
upper_index (Err refusal) = 0

-- the upper item of item i of a sheet of n items; 0 where it has none
unfoldable pub upper : List ℕ → ℕ → ℕ → ℕ
upper s n i = cond (ltb i n) (upper_index (item_at s i)) 0

-- whether one of the first n items is of kind 10
unfoldable pub stepped_in : List ℕ → ℕ → Bool
stepped_in s n = list_any (λ i. is_lower (item_at s i)) (range_with_len 0 n)

-- "The program lists every upper roof before what stands below it": the roofs of a sheet of n items in that order
abbrev pub roof_order : List ℕ → ℕ → List ℕ
roof_order s n = order (upper s n) n
