-- The forms that items of every kind share.
use Rattle.std.specs.Prelude.{ℕ, Bool, true, false, cond, List, eqb, length, Result, Ok, Err}
use Rattle.figures.specs.declared.refusal.Refusal.{Refusal}
use Rattle.figures.specs.declared.refusal.Refusal.TheVariants.{ItemLength}
use Rattle.figures.specs.declared.slopes.Slope.{Slope}
use Rattle.little_endian.specs.Numbers.{le16, le32}
use Rattle.item_forms.specs.declared.Item.{Item}
use Rattle.item_forms.specs.declared.Item.TheVariants.{SiteItem, RoofItem, LowerItem}

-- "4 item empty or not of its kind's length"
abbrev pub sized : ℕ → List ℕ → Item → Result Item Refusal
sized n p item = cond (eqb (length p) n) (Ok item) (Err ItemLength)

-- a slope whose pitch (16) and width (32) begin at two bytes
abbrev pub slope_at : List ℕ → ℕ → ℕ → Slope
slope_at p pitch width = record { pitch = le16 p pitch; width = le32 p width }

-- whether an item is of kind 10
abbrev pub is_lower : Result Item Refusal → Bool
is_lower (Ok (SiteItem fields)) = false
is_lower (Ok (RoofItem shape)) = false
is_lower (Ok (LowerItem lower)) = true
is_lower (Err refusal) = false
