-- What a sheet's readers answer, each under its ceiling: document 02, A6.
use Rattle.std.specs.Prelude.{ℕ, Bool, List, ◌≡◌, length}
use Rattle.ceilings.specs.Ceilings.{inside}
use Rattle.ceilings.specs.declared.Ceiling.{Ceiling}
use Rattle.pairs.specs.Pairs.{Answer, count}
use Rattle.sheet.specs.Sheet.{Place, sheet_verdict, place, part_at}

-- "A sheet inside the desk's ceiling gets the same answer from both": a sheet inside a ceiling
abbrev pub sheet_inside : Ceiling → List ℕ → Bool
sheet_inside ceiling s = inside ceiling (length s) (count s)

-- "the same answer": what the reader answers to a sheet with a store under a ceiling, the verdict, where each item lies, and each item
pub record Read (store s : List ℕ) (ceiling : Ceiling) (v : Answer ℕ) (at : ℕ → Answer Place) (item : ℕ → List ℕ) : Type 0 where
  pub verdict : sheet_verdict store ceiling s ≡ v
  pub places : (i : ℕ) → place store ceiling s i ≡ at i
  pub items : (i : ℕ) → part_at (place store ceiling s i) s ≡ item i
