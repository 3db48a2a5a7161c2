-- The listing of a sheet, as the list of its bytes.
use Rattle.std.specs.Prelude.{ℕ, ◌-◌, cond, List, ◌++◌, ltb, length, drop}
use Rattle.ceilings.specs.Ceilings.{terminals}
use Rattle.pairs.specs.Pairs.{Answer, accepted, refused}
use Rattle.plain_rows.specs.Words.{header, refused_row}
use Rattle.sheet.specs.Sheet.{sheet_verdict}
use Rattle.sheet_figures.specs.Find.{sheet_national}
use Rattle.sheet_rows.specs.SheetRows.{roofs_rows}
use Rattle.upper_items.specs.Uppers.{roof_order}

-- the header, then the roofs in their order, document 02, A7; "A refused sheet gives one line only"
unfoldable pub listing_by : List ℕ → Answer ℕ → List ℕ → List ℕ
listing_by store (accepted n) sheet = header ++ roofs_rows (sheet_national store sheet) sheet (roof_order sheet n) (n - 1)
listing_by store (refused number item) sheet = refused_row number item

-- the listing of a sheet that is read with a store; "The program snowlist has an empty store" (document 02, A8)
unfoldable pub listing : List ℕ → List ℕ → List ℕ
listing store sheet = listing_by store (sheet_verdict store terminals sheet) sheet

-- room for the listing of any sheet: the header of 29 bytes, and for each of 31 roofs 128 rows of 66 bytes and 4 of 44
abbrev pub list_room : ℕ
list_room = 267373

-- the bytes that are written: none where the room is too small
unfoldable pub listed : List ℕ → List ℕ → ℕ → ℕ
listed store sheet room = cond (ltb room list_room) 0 (length (listing store sheet))

-- what is left in the lent bytes: the listing at their front and their old contents behind it
unfoldable pub bytes_after : List ℕ → List ℕ → List ℕ → List ℕ
bytes_after store sheet old = cond (ltb (length old) list_room) old (listing store sheet ++ drop (length (listing store sheet)) old)

-- the numbers that are lent to the maker for each arrangement: what they hold afterwards is free
abbrev pub Free : List ℕ → Type 0
Free numbers = Unit
