-- The sheet, read with a lent store: the verdict on it, and its items. Refusal 18 of the store, 3 to 10, 14, 15 and 19 item by item, 16 and
-- 17 over all items, and 12 for an index.
use Rattle.std.specs.Prelude.{ℕ, ◌<◌, Bool, true, false, cond, List, [], ◌≡◌, ltb, eqb, take, drop, Result, Ok, Err}
use Rattle.figures.specs.Refusal.{number_of}
use Rattle.figures.specs.Store.{set_count, store_refusal}
use Rattle.item_rules.specs.Rules.{rule_of}
use Rattle.ceilings.specs.Ceilings.{terminals}
use Rattle.ceilings.specs.declared.Ceiling.{Ceiling}
use Rattle.pairs.specs.Pairs.{Answer, accepted, refused, count, offset, size, in_turn, pairs_verdict, and_then, part, PartIn}
use Rattle.upper_rules.specs.UpperRules.{uppers_verdict}
use Rattle.pair_words.specs.declared.Pair.{Pair}
use Rattle.pairs.specs.declared.turns.Refused.{Refused}

-- "then item by item empty (4), 3, 4, 5, and the value rules": the first rule that item i breaks
unfoldable pub item_number : List ℕ → List ℕ → ℕ → ℕ
item_number store s i = rule_of store i (part s i)

-- an item that lies in the sheet, its pair too, and breaks no rule with some store
pub record ItemIn (s : List ℕ) (i : ℕ) : Type 0 where
  pub part : PartIn s i
  pub store : List ℕ
  pub sound : item_number store s i ≡ 0

-- the rules on a sheet: its pairs, then its items in turn, then their upper items; accepted with its count
unfoldable pub rules_verdict : List ℕ → Ceiling → List ℕ → Answer ℕ
rules_verdict store ceiling s =
    and_then (pairs_verdict ceiling s) (and_then (in_turn (item_number store s) (count s) 0 (count s)) (uppers_verdict s (count s)))

-- document 02, A8: 18 "comes before any rule on the sheet or the figures and names item 0"
unfoldable pub store_verdict : List ℕ → Answer ℕ
store_verdict store = cond (eqb (store_refusal store) 0) (accepted (set_count store)) (refused (store_refusal store) 0)

-- the verdict on a sheet that is read with a store
unfoldable pub sheet_verdict : List ℕ → Ceiling → List ℕ → Answer ℕ
sheet_verdict store ceiling s = and_then (store_verdict store) (rules_verdict store ceiling s)

-- a sheet of n items that is accepted with a store: no caller's ceiling is above the terminals', so they accept it too
abbrev pub accepts : Answer ℕ → ℕ → Bool
accepts (accepted m) n = eqb m n
accepts (refused number item) n = false

abbrev pub SheetOf : List ℕ → List ℕ → ℕ → Type 0
SheetOf store s n = accepts (sheet_verdict store terminals s) n ≡ true

-- one of the items of a sheet that is accepted with some store under some ceiling
pub record ItemOf (s : List ℕ) (i : ℕ) : Type 0 where
  pub store : List ℕ
  pub ceiling : Ceiling
  pub items : ℕ
  pub verdict : sheet_verdict store ceiling s ≡ accepted items
  pub below : i < items

-- where an item lies in the sheet
pub record Place : Type 0 where
  pub start : ℕ
  pub bytes : ℕ

-- 12 an index not below n, after every rule on the sheet
unfoldable pub place_by : Answer ℕ → List ℕ → ℕ → Answer Place
place_by (accepted n) s index = cond (ltb index n) (accepted (record { start = offset s index; bytes = size s index })) (refused 12 index)
place_by (refused number item) s index = refused number item

unfoldable pub place : List ℕ → Ceiling → List ℕ → ℕ → Answer Place
place store ceiling s index = place_by (sheet_verdict store ceiling s) s index

-- "The reader hands back the item as that part of the caller's sheet"; the empty part where it is refused
abbrev pub part_at : Answer Place → List ℕ → List ℕ
part_at (accepted p) s = take p.bytes (drop p.start s)
part_at (refused number item) s = []

-- what an answer of `locate` says
abbrev pub located_means : Result Pair Refused → Answer Place
located_means (Ok pair) = accepted (record { start = pair.offset; bytes = pair.size })
located_means (Err e) = refused (number_of e.refusal) e.item
