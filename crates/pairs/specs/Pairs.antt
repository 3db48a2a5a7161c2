-- The count and the pairs of a sheet, and the verdict on them: refusals 1 and 2.
use Rattle.std.specs.Prelude.{ℕ, zero, suc, ◌≡◌, ◌+◌, ◌*◌, ◌≤◌, ◌<◌, cond, ◌&&◌, List, leb, eqb, length, take, drop, Result, Ok, Err}
use Rattle.figures.specs.Refusal.{number_of}
use Rattle.figures.specs.declared.refusal.Refusal.{Refusal}
use Rattle.little_endian.specs.Numbers.{le16}
use Rattle.ceilings.specs.Ceilings.{fits}
use Rattle.ceilings.specs.declared.Ceiling.{Ceiling}
use Rattle.pairs.specs.declared.turns.Refused.{Refused}

-- an answer: a value, or the number of the rule that is broken and the item that it names
pub data Answer (A : Type 0) : Type 0 where
  accepted : A → Answer A
  refused : ℕ → ℕ → Answer A

-- "Bytes 0 and 1 give the count n"
abbrev pub count : List ℕ → ℕ
count s = le16 s 0

-- "Then n pairs follow, each an offset and a length of 16 bits"
abbrev pub offset : List ℕ → ℕ → ℕ
offset s i = le16 s (2 + 4 * i)

abbrev pub size : List ℕ → ℕ → ℕ
size s i = le16 s (2 + 4 * i + 2)

-- "The first offset is not before the end of the pairs, each later one not before the previous offset plus length"
abbrev pub earliest : List ℕ → ℕ → ℕ
earliest s zero = 2 + 4 * count s
earliest s (suc i) = offset s i + size s i

-- pair i keeps the rule of offsets, and its item does not run past the sheet: otherwise 2
unfoldable pub pair_number : List ℕ → ℕ → ℕ
pair_number s i = cond (leb (earliest s i) (offset s i) && leb (offset s i + size s i) (length s)) 0 2

-- k items in turn from i on, of which the first whose number is not 0 is named; n where there is none
unfoldable pub in_turn : (ℕ → ℕ) → ℕ → ℕ → ℕ → Answer ℕ
in_turn number n i zero = accepted n
in_turn number n i (suc k) = cond (eqb (number i) 0) (in_turn number n (suc i) k) (refused (number i) i)

-- "Order: 1; 2 over all pairs in turn, the first bad one named"; document 02, A6: 1 "in its old place"
unfoldable pub pairs_verdict : Ceiling → List ℕ → Answer ℕ
pairs_verdict ceiling s = cond (fits ceiling (length s) (count s)) (in_turn (pair_number s) (count s) 0 (count s)) (refused 1 0)

-- one rule after another: the first refusal stands
abbrev pub and_then : {A B : Type 0} → Answer A → Answer B → Answer B
and_then (accepted a) next = next
and_then (refused number item) next = refused number item

-- item i, as a part of the sheet
abbrev pub part : List ℕ → ℕ → List ℕ
part s i = take (size s i) (drop (offset s i) s)

-- an item that lies in the sheet, its pair too; and the first n items
pub record PartIn (s : List ℕ) (i : ℕ) : Type 0 where
  pub pair : 2 + 4 * i + 4 ≤ length s
  pub within : offset s i + size s i ≤ length s

abbrev pub PartsIn : List ℕ → ℕ → Type 0
PartsIn s n = (i : ℕ) → i < n → PartIn s i

-- what an answer says by document 01's numbers
abbrev pub answer_means : {A : Type 0} → Result A Refused → Answer A
answer_means (Ok a) = accepted a
answer_means (Err e) = refused (number_of e.refusal) e.item

-- what an answer of `verdict` says
abbrev pub verdict_means : Result ℕ Refused → Answer ℕ
verdict_means r = answer_means r

-- the count in it, 0 where it is a refusal
abbrev pub verdict_count : Result ℕ Refused → ℕ
verdict_count (Ok n) = n
verdict_count (Err e) = 0

-- a refusal that names no item of its own names item 0
abbrev pub NamesNone : Refusal → Refused → Type 0
NamesNone refusal r = r ≡ record { refusal = refusal; item = 0 }
