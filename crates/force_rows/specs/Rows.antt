-- The rows of a roof's local forces in a listing.
use Rattle.std.specs.Prelude.{ℕ, List, [], ◌∷◌, ◌++◌}
use Rattle.figures.specs.declared.site.Site.{Site}
use Rattle.figures.specs.declared.roof.Shape.{Shape}
use Rattle.figures.specs.Slopes.{slope_at}
use Rattle.standard.specs.Forces.{Force, force, none, refused, overhang_at, guard_at}
use Rattle.text.specs.Text.{row}

-- "item, 21, slope, overhang; item, 22, slope, guard force"; no line where there is no force
abbrev pub force_row : ℕ → ℕ → ℕ → Force → List ℕ
force_row item code slope (force newtons) = row (item ∷ code ∷ slope ∷ newtons ∷ [])
force_row item code slope none = []
force_row item code slope (refused number) = []

unfoldable pub slope_rows : Site → Shape → ℕ → ℕ → List ℕ
slope_rows s shape item slope =
    force_row item 21 slope (overhang_at s shape slope) ++ force_row item 22 slope (guard_at s (slope_at shape slope))

-- "per slope (1 left or only, 2 right)"
unfoldable pub force_rows : Site → Shape → ℕ → List ℕ
force_rows s shape item = slope_rows s shape item 1 ++ slope_rows s shape item 2
