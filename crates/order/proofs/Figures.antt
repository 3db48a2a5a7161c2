-- Worked sheets: a lean-to (1) under an aisle (3) under a hall (2), and two roofs (1, 2) that stand under a later one (3).
use mathlib.Core.Path.{◌≡◌, refl}
use mathlib.Core.List.{[], ◌∷◌}
use Rattle.circles.specs.Following.{upper_in, listed}
use Rattle.order.specs.Order.{lowest, ready, next_roof, added, first_roofs, order}

pub stepped : order (upper_in (0 ∷ 3 ∷ 0 ∷ 2 ∷ [])) 4 ≡ 2 ∷ 3 ∷ 1 ∷ []
unfolding lowest listed ready next_roof added first_roofs order
stepped = refl

pub both_under : order (upper_in (0 ∷ 3 ∷ 3 ∷ 0 ∷ 0 ∷ [])) 5 ≡ 3 ∷ 1 ∷ 2 ∷ 4 ∷ []
unfolding lowest listed ready next_roof added first_roofs order
both_under = refl
