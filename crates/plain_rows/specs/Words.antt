-- The two lines of words: the header of a listing, and the line of a refused sheet.
use Rattle.std.specs.Prelude.{ℕ, List, [], ◌∷◌, ◌++◌}
use Rattle.text.specs.Text.{row}

-- "ITEM ARR START END LOAD LOAD" and a line feed
abbrev pub header : List ℕ
header =
    73 ∷ 84 ∷ 69 ∷ 77 ∷ 32 ∷ 65 ∷ 82 ∷ 82 ∷ 32 ∷ 83 ∷ 84 ∷ 65 ∷ 82 ∷ 84 ∷ 32 ∷
    69 ∷ 78 ∷ 68 ∷ 32 ∷ 76 ∷ 79 ∷ 65 ∷ 68 ∷ 32 ∷ 76 ∷ 79 ∷ 65 ∷ 68 ∷ 10 ∷ []

-- "REFUSED, number, item"
abbrev pub refused_row : ℕ → ℕ → List ℕ
refused_row number item = (82 ∷ 69 ∷ 70 ∷ 85 ∷ 83 ∷ 69 ∷ 68 ∷ 32 ∷ []) ++ row (number ∷ item ∷ [])
