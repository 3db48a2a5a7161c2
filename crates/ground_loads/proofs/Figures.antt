-- Loads of each region, worked by hand from Table C.1 and computed here from the definitions.
use mathlib.Core.List.{[], ◌∷◌}
use mathlib.Core.Path.{◌≡◌, refl}
use Rattle.rounding.specs.Up.{ceil_div, rounded_up}
use Rattle.ground_loads.specs.Map.{rows, row_of, zone_load, expression, ground_load}

-- zone 2 at 500 m and zone 5 at 1,500 m: 1,293 × (1 + (500/728)²) is 1,902.92.., 3,219 × (1 + (1,500/728)²) is 16,884.97..
pub loads :
    (ground_load 1 2 500 ∷ ground_load 1 5 1500
    ∷ ground_load 2 2 500 ∷ ground_load 2 5 1500
    ∷ ground_load 3 2 500 ∷ ground_load 3 5 1500
    ∷ ground_load 4 2 500 ∷ ground_load 4 5 1500
    ∷ ground_load 5 2 500 ∷ ground_load 5 5 1500
    ∷ ground_load 6 2 500 ∷ ground_load 6 5 1500
    ∷ ground_load 7 2 500 ∷ ground_load 7 5 1500
    ∷ ground_load 8 2 500 ∷ ground_load 8 5 1500
    ∷ [])
    ≡ (1903 ∷ 16885 ∷ 2533 ∷ 46568 ∷ 1051 ∷ 7609 ∷ 545 ∷ 7862 ∷ 1751 ∷ 27402 ∷ 764 ∷ 2291 ∷ 3444 ∷ 8790 ∷ 1179 ∷ 3595 ∷ [])
unfolding ground_load expression zone_load row_of rows rounded_up ceil_div
loads = refl

-- nothing is rounded where the expression is whole
pub whole_loads : (ground_load 1 1 0 ∷ ground_load 1 1 728 ∷ ground_load 6 1 966 ∷ []) ≡ (651 ∷ 1302 ∷ 1082 ∷ [])
unfolding ground_load expression zone_load row_of rows rounded_up ceil_div
whole_loads = refl
