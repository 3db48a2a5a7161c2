-- The rows of a sheet's roofs.
use Rattle.std.specs.Prelude.{ℕ, zero, suc, List, [], ◌++◌, get_or}
use Rattle.roof_rows.specs.Rows.{roof_rows}
use Rattle.sheet_figures.specs.Find.{sheet_site, sheet_roof}
use Rattle.figures.specs.declared.national.National.{National}

-- the rows of the roof that item i is
unfoldable pub item_rows : National → List ℕ → ℕ → List ℕ
item_rows national sheet i = roof_rows national (sheet_site sheet) (sheet_roof sheet i) i

-- the rows of the first k roofs of a list of items, one roof after the other
unfoldable pub roofs_rows : National → List ℕ → List ℕ → ℕ → List ℕ
roofs_rows national sheet roofs zero = []
roofs_rows national sheet roofs (suc k) = roofs_rows national sheet roofs k ++ item_rows national sheet (get_or roofs k 0)
