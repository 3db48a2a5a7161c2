-- A lower roof that takes its upper figures from another item of its sheet, kind 10: document 02, A7.
use Rattle.std.specs.Prelude.{ℕ, ◌+◌, Bool, true, false, cond, ◌&&◌, eqb, Option, Some, None, is_some, unwrap_or, Result, Ok, Err}
use Rattle.figures.specs.Ranges.{within}
use Rattle.figures.specs.RoofRules.{kind_of}
use Rattle.figures.specs.Slopes.{slope_at}
use Rattle.figures.specs.declared.refusal.Refusal.{Refusal}
use Rattle.figures.specs.declared.slopes.GuardedSlope.{GuardedSlope}
use Rattle.figures.specs.declared.roof.LowerRoof.{LowerRoof}
use Rattle.figures.specs.declared.roof.Shape.{Shape}
use Rattle.figures.specs.declared.roof.Shape.TheVariants.{Monopitch, Abutting}
use Rattle.item_forms.specs.declared.Item.{Item}
use Rattle.item_forms.specs.declared.Item.TheVariants.{SiteItem, RoofItem, LowerItem}

-- "The upper item is of kind 2, 3 or 10"
abbrev pub is_upper : Result Item Refusal → Bool
is_upper (Ok (SiteItem fields)) = false
is_upper (Ok (RoofItem shape)) = within 2 3 (kind_of shape)
is_upper (Ok (LowerItem lower)) = true
is_upper (Err refusal) = false

-- the width of a slope, 0 where there is none
abbrev pub slope_width : Option GuardedSlope → ℕ
slope_width None = 0
slope_width (Some guarded) = guarded.slope.width

-- "b1 is its whole width", which is that of its slopes
unfoldable pub whole_width : Shape → ℕ
whole_width shape = slope_width (slope_at shape 1) + slope_width (slope_at shape 2)

-- "pitch, slope width and guard come from its adjacent side": slope 1 at the left, 2 at the right. "Kind 2 serves either side"
unfoldable pub adjacent_slope : Shape → ℕ → Option GuardedSlope
adjacent_slope shape side = cond (eqb side 1 && is_some (slope_at shape 2)) (slope_at shape 2) (slope_at shape 1)

-- a flat roof of one slope, without a guard
abbrev pub flat_slope : ℕ → GuardedSlope
flat_slope width = record { slope = record { pitch = 0; width = width }; guard = 0 }

abbrev pub flat_roof : ℕ → Shape
flat_roof width = Monopitch (flat_slope width)

-- the upper roof that an item is: "a kind 10 above has pitch 0, no guard and its b2 as slope width", and is as wide as that.
-- Any other item is none (16)
abbrev pub upper_shape : Result Item Refusal → Shape
upper_shape (Ok (SiteItem fields)) = flat_roof 0
upper_shape (Ok (RoofItem shape)) = shape
upper_shape (Ok (LowerItem lower)) = flat_roof lower.b2
upper_shape (Err refusal) = flat_roof 0

-- "As figures it carries kind 6's fields", by its own item and the slope above the wall
abbrev pub stepped_at : LowerRoof → ℕ → Option GuardedSlope → Shape
stepped_at lower b1 slope = Abutting (record { b1 = b1; b2 = lower.b2; h = lower.h; slope = unwrap_or slope (flat_slope 0); stepped = true })

unfoldable pub stepped_shape : LowerRoof → Shape → Shape
stepped_shape lower upper = stepped_at lower (whole_width upper) (adjacent_slope upper lower.side)
