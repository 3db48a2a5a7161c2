-- Rows of the segments that a slice holds, four numbers each.
use Rattle.std.specs.Prelude.{ℕ, zero, suc, ◌+◌, ◌*◌, List, [], ◌∷◌, ◌++◌, get_or}
use Rattle.text.specs.Text.{row}

-- the row of the segment at an index
abbrev pub slice_row : List ℕ → ℕ → ℕ → ℕ → List ℕ
slice_row numbers item code k =
    row (item ∷ code ∷ get_or numbers (4 * k) 0 ∷ get_or numbers (4 * k + 1) 0 ∷ get_or numbers (4 * k + 2) 0 ∷ get_or numbers (4 * k + 3) 0 ∷ [])

-- the rows of the first k segments
unfoldable pub slice_rows : List ℕ → ℕ → ℕ → ℕ → List ℕ
slice_rows numbers item code zero = []
slice_rows numbers item code (suc k) = slice_rows numbers item code k ++ slice_row numbers item code k

-- the rows of segments
abbrev pub rows_of : ℕ → ℕ → List (List ℕ) → List ℕ
rows_of item code [] = []
rows_of item code (segment ∷ segments) = row (item ∷ code ∷ segment) ++ rows_of item code segments
