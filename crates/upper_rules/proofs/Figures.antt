-- Sheets of a site and three roofs, of which the first two are lower roofs, worked out by hand.
use Prim.Native.Nat.{ℕ}
use mathlib.Core.List.{List, [], ◌∷◌, ◌++◌}
use mathlib.Core.Path.{◌≡◌, refl}
use lib.ListN.{length, replicate}
use Rattle.circles.specs.Following.{meets, comes_back, listed}
use Rattle.items.specs.Items.{by_kind, content}
use Rattle.order.specs.Order.{lowest, ready, next_roof, added, first_roofs, order}
use Rattle.pairs.specs.Pairs.{Answer, accepted, refused, in_turn}
use Rattle.roof_items.specs.RoofItems.{monopitch_item, abutting_item, lower_item}
use Rattle.site_items.specs.SiteItems.{site_item}
use Rattle.upper_items.specs.Uppers.{upper, roof_order}
use Rattle.upper_rules.specs.UpperRules.{upper_number, circle_number, uppers_verdict}

-- the bytes of a lower roof at the left side of an upper item
abbrev lower : ℕ → List ℕ
lower i = 10 ∷ 160 ∷ 15 ∷ 0 ∷ 0 ∷ 196 ∷ 9 ∷ 0 ∷ 0 ∷ i ∷ 0 ∷ []

abbrev shed : List ℕ
shed = 2 ∷ 0 ∷ 0 ∷ 0 ∷ 136 ∷ 19 ∷ 0 ∷ 0 ∷ []

-- a roof of kind 6, of which no field is looked at here
abbrev abutting : List ℕ
abutting = 6 ∷ replicate 19 0

-- four items without gaps: the site at 18, lower roofs at 32 and 43, the last at 54
abbrev sheet : ℕ → ℕ → List ℕ → List ℕ
sheet i j last =
    4 ∷ 0 ∷ 18 ∷ 0 ∷ 14 ∷ 0 ∷ 32 ∷ 0 ∷ 11 ∷ 0 ∷ 43 ∷ 0 ∷ 11 ∷ 0 ∷ 54 ∷ 0 ∷ length last ∷ 0 ∷ 1 ∷
    replicate 13 0 ++ (lower i ++ (lower j ++ last))

abbrev verdict : ℕ → ℕ → List ℕ → Answer ℕ
verdict i j last = uppers_verdict (sheet i j last) 4

-- upper items that come later; the site, an index past the last and kind 6 above
pub sixteen :
    (verdict 2 3 shed ∷ verdict 3 3 shed ∷ verdict 0 3 shed ∷ verdict 3 0 shed ∷ verdict 4 3 shed ∷ verdict 3 255 shed ∷ verdict 3 1 abutting ∷ [])
    ≡ (accepted 4 ∷ accepted 4 ∷ refused 16 1 ∷ refused 16 2 ∷ refused 16 1 ∷ refused 16 2 ∷ refused 16 1 ∷ [])
unfolding uppers_verdict upper_number circle_number comes_back meets upper in_turn content by_kind site_item monopitch_item abutting_item lower_item
sixteen = refl

-- a roof under itself, two under each other, three in a circle, one that leads into a circle of two or of one; 16 comes before 17
pub seventeen :
    (verdict 1 3 shed ∷ verdict 2 1 shed ∷ verdict 2 3 (lower 1) ∷ verdict 2 3 (lower 2) ∷ verdict 3 2 shed ∷ verdict 2 1 (lower 0) ∷ [])
    ≡ (refused 17 1 ∷ refused 17 1 ∷ refused 17 1 ∷ refused 17 2 ∷ refused 17 2 ∷ refused 16 3 ∷ [])
unfolding uppers_verdict upper_number circle_number comes_back meets upper in_turn content by_kind site_item monopitch_item abutting_item lower_item
seventeen = refl

-- a lean-to (1) under an aisle (2) under the last; both under the last; the second under the first under the last
pub in_order :
    (roof_order (sheet 2 3 shed) 4 ∷ roof_order (sheet 3 3 shed) 4 ∷ roof_order (sheet 3 1 shed) 4 ∷ [])
    ≡ ((3 ∷ 2 ∷ 1 ∷ []) ∷ (3 ∷ 1 ∷ 2 ∷ []) ∷ (3 ∷ 1 ∷ 2 ∷ []) ∷ [])
unfolding order first_roofs added next_roof ready lowest listed upper content by_kind site_item monopitch_item lower_item
in_order = refl
