-- Lower roofs worked out by hand: at either side of a hall and of a shed, and under another lower roof.
use Prim.Native.Nat.{ℕ}
use mathlib.Core.Bool.{Bool, true, false}
use mathlib.Core.List.{[], ◌∷◌}
use mathlib.Core.Path.{◌≡◌, refl}
use Rattle.std.specs.Prelude.{Ok, Err}
use Rattle.figures.specs.RoofRules.{shape_refusal}
use Rattle.figures.specs.Spans.{no_spans}
use Rattle.figures.specs.Slopes.{slope_at}
use Rattle.figures.specs.declared.roof.LowerRoof.{LowerRoof}
use Rattle.figures.specs.declared.slopes.GuardedSlope.{GuardedSlope}
use Rattle.figures.specs.declared.refusal.Refusal.TheVariants.{UnknownKind}
use Rattle.figures.specs.declared.roof.Shape.{Shape}
use Rattle.figures.specs.declared.roof.Obstruction.TheVariants.{Parapet}
use Rattle.figures.specs.declared.roof.Shape.TheVariants.{Monopitch, Pitched, MultiSpan, Cylindrical, Abutting, Projection, Obstructed}
use Rattle.item_forms.specs.declared.Item.TheVariants.{RoofItem, LowerItem}
use Rattle.stepped_roofs.specs.Stepped.{is_upper, whole_width, adjacent_slope, upper_shape, stepped_shape}

abbrev slope : ℕ → ℕ → ℕ → GuardedSlope
slope pitch width guard = record { slope = record { pitch = pitch; width = width }; guard = guard }

-- b2 8,000 and h 3,500, at a side
abbrev lower : ℕ → LowerRoof
lower side = record { b2 = 8000; h = 3500; upper = 3; side = side }

-- 20.0°, 9,000 wide; 40.0°, 6,000 wide, with a guard
abbrev hall : Shape
hall = Pitched (slope 200 9000 0) (slope 400 6000 1)

abbrev shed : Shape
shed = Monopitch (slope 120 5000 1)

abbrev abutting : ℕ → ℕ → ℕ → GuardedSlope → Bool → Shape
abutting b1 b2 h slope stepped = Abutting (record { b1 = b1; b2 = b2; h = h; slope = slope; stepped = stepped })

-- the hall's whole width and the adjacent slope with its guard; a shed's at either side; a lower roof's b2, flat and without a guard
pub below :
    (stepped_shape (lower 0) hall ∷ stepped_shape (lower 1) hall ∷ stepped_shape (lower 0) shed ∷ stepped_shape (lower 1) shed
    ∷ stepped_shape (lower 0) (upper_shape (Ok (LowerItem (lower 0)))) ∷ stepped_shape (lower 1) (upper_shape (Ok (LowerItem (lower 0)))) ∷ [])
    ≡ (abutting 15000 8000 3500 (slope 200 9000 0) true ∷ abutting 15000 8000 3500 (slope 400 6000 1) true
    ∷ abutting 5000 8000 3500 (slope 120 5000 1) true ∷ abutting 5000 8000 3500 (slope 120 5000 1) true
    ∷ abutting 8000 8000 3500 (slope 0 8000 0) true ∷ abutting 8000 8000 3500 (slope 0 8000 0) true ∷ [])
unfolding stepped_shape whole_width adjacent_slope slope_at
below = refl

abbrev upper_roof : Shape → Bool
upper_roof shape = is_upper (Ok (RoofItem shape))

-- kinds 2, 3 and 10, and no other
pub which_kinds :
    (upper_roof shed ∷ upper_roof hall ∷ is_upper (Ok (LowerItem (lower 0))) ∷ upper_roof (MultiSpan 2 false)
    ∷ upper_roof (Cylindrical (record { rise = 1; span = 2 })) ∷ upper_roof (abutting 1 1 1 (slope 0 1 0) false)
    ∷ upper_roof (Projection (record { h = 1; left = 1; right = 1 })) ∷ upper_roof (MultiSpan 2 true) ∷ upper_roof (Obstructed (Parapet 1 1 1))
    ∷ is_upper (Err UnknownKind) ∷ [])
    ≡ (true ∷ true ∷ true ∷ false ∷ false ∷ false ∷ false ∷ false ∷ false ∷ false ∷ [])
which_kinds = refl

-- b1 up to 200,000 of kind 10, up to 100,000 of kind 6
abbrev refusal : ℕ → Bool → ℕ
refusal b1 stepped = shape_refusal (abutting b1 8000 3500 (slope 0 8000 0) stepped) no_spans

pub widest :
    (refusal 100000 false ∷ refusal 100001 false ∷ refusal 100001 true ∷ refusal 200000 true ∷ refusal 200001 true ∷ refusal 0 true ∷ [])
    ≡ (0 ∷ 8 ∷ 0 ∷ 0 ∷ 8 ∷ 8 ∷ [])
unfolding shape_refusal
widest = refl
