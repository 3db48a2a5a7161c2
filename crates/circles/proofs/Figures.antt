-- Worked sheets: a roof (1) that only leads into a circle (2 and 3), and one (2) that stands under itself.
use Prim.Native.Nat.{ℕ}
use mathlib.Core.Bool.{Bool, true, false}
use mathlib.Core.List.{List, [], ◌∷◌}
use mathlib.Core.Path.{◌≡◌, refl}
use Rattle.circles.specs.Following.{upper_in, meets, comes_back}

abbrev backs : List ℕ → List Bool
backs table = comes_back (upper_in table) 4 1 ∷ comes_back (upper_in table) 4 2 ∷ comes_back (upper_in table) 4 3 ∷ []

pub led_into : backs (0 ∷ 2 ∷ 3 ∷ 2 ∷ []) ≡ false ∷ true ∷ true ∷ []
unfolding meets comes_back
led_into = refl

pub under_itself : backs (0 ∷ 0 ∷ 2 ∷ 0 ∷ []) ≡ false ∷ true ∷ false ∷ []
unfolding meets comes_back
under_itself = refl

pub three : backs (0 ∷ 3 ∷ 1 ∷ 2 ∷ []) ≡ true ∷ true ∷ true ∷ []
unfolding meets comes_back
three = refl
