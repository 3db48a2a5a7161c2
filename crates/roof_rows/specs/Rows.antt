-- The rows of one roof in a listing: its arrangements, code upward, and its local forces.
use Rattle.std.specs.Prelude.{ℕ, zero, suc, ◌+◌, cond, List, [], ◌∷◌, ◌++◌}
use Rattle.figures.specs.declared.site.Site.{Site}
use Rattle.figures.specs.declared.roof.Roof.{Roof}
use Rattle.force_rows.specs.Rows.{force_rows}
use Rattle.standard.specs.Arrangements.{exists, count, stretch}
use Rattle.standard.specs.Codes.{highest_code}
use Rattle.standard.specs.Stretch.{Stretch, segment}
use Rattle.standard.specs.Units.{parts}
use Rattle.figures.specs.declared.national.National.{National}
use Rattle.text.specs.Text.{row}

-- "one line a segment: item, code, start, end, load, load": the first k segments
unfoldable pub segment_rows : (ℕ → Stretch) → ℕ → ℕ → ℕ → List ℕ
segment_rows S item code zero = []
segment_rows S item code (suc k) = segment_rows S item code k ++ row (item ∷ code ∷ segment parts S k)

-- the rows of an arrangement, where it exists
unfoldable pub code_rows : National → Site → Roof → ℕ → ℕ → List ℕ
code_rows national s r item code =
    cond (exists s r code) (segment_rows (stretch national s r code) item code (count national r code)) []

-- "code upward": codes 1, 2, .. up to n
unfoldable pub codes_rows : National → Site → Roof → ℕ → ℕ → List ℕ
codes_rows national s r item zero = []
codes_rows national s r item (suc n) = codes_rows national s r item n ++ code_rows national s r item (suc n)

unfoldable pub arrangement_rows : National → Site → Roof → ℕ → List ℕ
arrangement_rows national s r item = codes_rows national s r item highest_code

-- "After an item's segments" come its forces
unfoldable pub roof_rows : National → Site → Roof → ℕ → List ℕ
roof_rows national s r item = arrangement_rows national s r item ++ force_rows s r.shape item

-- the number of rows of an arrangement, and of codes 1 to n
unfoldable pub row_count : National → Site → Roof → ℕ → ℕ
row_count national s r code = cond (exists s r code) (count national r code) 0

unfoldable pub row_counts : National → Site → Roof → ℕ → ℕ
row_counts national s r zero = 0
row_counts national s r (suc n) = row_counts national s r n + row_count national s r (suc n)
