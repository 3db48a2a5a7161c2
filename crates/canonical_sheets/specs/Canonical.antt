-- One way to write a sheet: document 02, A10.
use Rattle.std.specs.Prelude.{ℕ, zero, suc, ◌+◌, ◌*◌, ◌/◌, ◌%◌, cond, List, [], ◌∷◌, ◌++◌, ltb, length, drop}
use Rattle.ceilings.specs.Ceilings.{terminals}
use Rattle.pairs.specs.Pairs.{Answer, accepted, refused, count, part, and_then}
use Rattle.plain_rows.specs.Words.{refused_row}
use Rattle.sheet.specs.Sheet.{sheet_verdict}

-- k items of a sheet in turn from item i on, each by its bytes
unfoldable pub items_from : List ℕ → ℕ → ℕ → List (List ℕ)
items_from s i zero = []
items_from s i (suc k) = part s i ∷ items_from s (suc i) k

-- the list of a sheet's items, "items in their order"
unfoldable pub items : List ℕ → List (List ℕ)
items s = items_from s 0 (count s)

-- a number of 16 bits as two bytes, the lower first
abbrev pub bytes16 : ℕ → List ℕ
bytes16 n = n % 256 ∷ n / 256 ∷ []

-- a pair, "an offset and a length of 16 bits"
abbrev pub pair_of : ℕ → ℕ → List ℕ
pair_of offset size = bytes16 offset ++ bytes16 size

-- the pairs of items that stand "without gaps" from an offset on
unfoldable pub pairs_from : ℕ → List (List ℕ) → List ℕ
pairs_from at [] = []
pairs_from at (p ∷ ps) = pair_of at (length p) ++ pairs_from (at + length p) ps

-- the items' bytes, one item after the other
unfoldable pub together : List (List ℕ) → List ℕ
together [] = []
together (p ∷ ps) = p ++ together ps

-- where the first of n items begins, "straight after the pairs"
abbrev pub pairs_end : ℕ → ℕ
pairs_end n = 2 + 4 * n

-- the sheet of a list of items: their count, their pairs, and the items behind these
unfoldable pub sheet_of : List (List ℕ) → List ℕ
sheet_of ps = bytes16 (length ps) ++ (pairs_from (pairs_end (length ps)) ps ++ together ps)

-- "Write an accepted sheet without gaps, items in their order, straight after the pairs"
unfoldable pub canonical : List ℕ → List ℕ
canonical s = sheet_of (items s)

-- "return its length"; "11 when the lent slice is shorter than the result, after every other rule, naming item 0"
unfoldable pub canonical_answer : List ℕ → List ℕ → ℕ → Answer ℕ
canonical_answer store s room =
    and_then (sheet_verdict store terminals s) (cond (ltb room (length (canonical s))) (refused 11 0) (accepted (length (canonical s))))

-- "Bytes of the lent slice behind it keep their old contents"; after a refusal all do
unfoldable pub canonical_after : Answer ℕ → List ℕ → List ℕ → List ℕ
canonical_after (accepted n) s old = canonical s ++ drop n old
canonical_after (refused number item) s old = old

-- what the program for the archive writes: the sheet in its one way, or the line of a refused sheet
unfoldable pub archived_by : Answer ℕ → List ℕ → List ℕ
archived_by (accepted n) s = canonical s
archived_by (refused number item) s = refused_row number item

unfoldable pub archived : List ℕ → List ℕ → List ℕ
archived store s = archived_by (sheet_verdict store terminals s) s
