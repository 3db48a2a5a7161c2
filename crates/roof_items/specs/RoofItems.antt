-- The items of a roof that has no spans beside it: kinds 2, 3, 5, 6 and 7 of document 01, and kinds 10 to 12 of document 02.
use Rattle.std.specs.Prelude.{ℕ, false, List, Result}
use Rattle.figures.specs.declared.refusal.Refusal.{Refusal}
use Rattle.figures.specs.declared.roof.LowerRoof.{LowerRoof}
use Rattle.figures.specs.declared.roof.Obstruction.TheVariants.{Parapet, SmallProjection}
use Rattle.figures.specs.declared.roof.Shape.TheVariants.{Monopitch, Pitched, Cylindrical, Abutting, Projection, Obstructed}
use Rattle.figures.specs.declared.slopes.GuardedSlope.{GuardedSlope}
use Rattle.little_endian.specs.Numbers.{byte_at, le32}
use Rattle.item_forms.specs.Forms.{sized, slope_at}
use Rattle.item_forms.specs.declared.Item.{Item}
use Rattle.item_forms.specs.declared.Item.TheVariants.{RoofItem, LowerItem}

-- a slope whose pitch, width and guard stand at three bytes
abbrev pub guarded_at : List ℕ → ℕ → ℕ → ℕ → GuardedSlope
guarded_at p pitch width guard = record { slope = slope_at p pitch width; guard = byte_at p guard }

-- 2, monopitch, 8 bytes: pitch (16), guard (8), width (32)
unfoldable pub monopitch_item : List ℕ → Result Item Refusal
monopitch_item p = sized 8 p (RoofItem (Monopitch (guarded_at p 1 4 3)))

-- 3, pitched, 15 bytes: pitch left, pitch right (16 each), guard left, guard right (8 each), width left, width right (32 each)
unfoldable pub pitched_item : List ℕ → Result Item Refusal
pitched_item p = sized 15 p (RoofItem (Pitched (guarded_at p 1 7 5) (guarded_at p 3 11 6)))

-- 5, cylindrical, 9 bytes: rise (32), span (32)
unfoldable pub cylindrical_item : List ℕ → Result Item Refusal
cylindrical_item p = sized 9 p (RoofItem (Cylindrical (record { rise = le32 p 1; span = le32 p 5 })))

-- 6, lower flat roof at a taller one, 20 bytes: b1, b2, h, slope width (32 each), pitch (16), guard (8)
unfoldable pub abutting_item : List ℕ → Result Item Refusal
abutting_item p =
    sized 20 p (RoofItem (Abutting (record { b1 = le32 p 1; b2 = le32 p 5; h = le32 p 9; slope = guarded_at p 17 13 19; stepped = false })))

-- 7, projection on a flat roof, 13 bytes: h, width to its left, width to its right (32 each)
unfoldable pub projection_item : List ℕ → Result Item Refusal
projection_item p = sized 13 p (RoofItem (Projection (record { h = le32 p 1; left = le32 p 5; right = le32 p 9 })))

-- "Item kind 10, 11 bytes: b2 and h (32 each), the index of the upper item (8), its adjacent side (8: 0 left, 1 right)"
abbrev pub lower_at : List ℕ → LowerRoof
lower_at p = record { b2 = le32 p 1; h = le32 p 5; upper = byte_at p 9; side = byte_at p 10 }

unfoldable pub lower_item : List ℕ → Result Item Refusal
lower_item p = sized 11 p (LowerItem (lower_at p))

-- "Item kind 11 is a parapet: h, b1 (the roof behind it, the whole length read), b2 (used in b alone)"; "Fields have 32 bits": 13 bytes
unfoldable pub parapet_item : List ℕ → Result Item Refusal
parapet_item p = sized 13 p (RoofItem (Obstructed (Parapet (le32 p 1) (le32 p 5) (le32 p 9))))

-- "Item kind 12 is a projection up to 1 m high: h1 and h2 (1..1,000), b1 and b2, left then right": 17 bytes
unfoldable pub small_projection_item : List ℕ → Result Item Refusal
small_projection_item p = sized 17 p (RoofItem (Obstructed (SmallProjection (le32 p 1) (le32 p 5) (le32 p 9) (le32 p 13))))
