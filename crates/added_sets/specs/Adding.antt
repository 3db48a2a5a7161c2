-- A national set that is added to a lent store: document 02, A8.
use Rattle.std.specs.Prelude.{ℕ, ◌+◌, ◌<◌, cond, ◌&&◌, List, [], ◌∷◌, ltb, eqb, length, set, Option, Some, None, Result, Ok, Err}
use Rattle.std.proofs.lemmas.List.Edits.{sets}
use Rattle.figures.specs.Store.{set_count, set_start, set_from, set_at, earliest_day, set_sound, store_refusal}
use Rattle.figures.specs.declared.national.NationalSet.{NationalSet}
use Rattle.figures.specs.declared.refusal.Refusal.{Refusal}
use Rattle.figures.specs.declared.refusal.Refusal.TheVariants.{Store}

-- "18 when an added set, or one already in the lent store, breaks a range, puts a low above its high or isn't later, .. or an added
-- set finds 32 there"; also where its numbers aren't six
unfoldable pub add_refusal : List ℕ → List ℕ → ℕ
add_refusal store numbers =
    cond
    (eqb (length numbers) 6
    && (eqb (store_refusal store) 0
    && (ltb (set_count store) 32 && set_sound (earliest_day (set_at store) (set_count store)) (set_from numbers 0))))
    0 18

-- a set's six numbers in their order
abbrev pub set_numbers : NationalSet → List ℕ
set_numbers s = s.day ∷ s.figures.arch ∷ s.figures.low ∷ s.figures.high ∷ s.figures.short ∷ s.figures.long ∷ []

-- "An added set goes behind the last and the count rises by one; nothing else in the store alters"
unfoldable pub with_set : List ℕ → NationalSet → List ℕ
with_set store s = sets (set store 0 (set_count store + 1)) (set_start (set_count store)) (set_numbers s)

-- what adding a set answers: the new count, or 18
unfoldable pub add_answer : List ℕ → List ℕ → Result ℕ Refusal
add_answer store numbers = cond (eqb (add_refusal store numbers) 0) (Ok (set_count store + 1)) (Err Store)

-- what the store holds afterwards: after a refusal its old contents
unfoldable pub store_after : List ℕ → List ℕ → List ℕ
store_after store numbers = cond (eqb (add_refusal store numbers) 0) (with_set store (set_from numbers 0)) store

-- the count in an answer, 0 where it is a refusal
abbrev pub added_count : Result ℕ Refusal → ℕ
added_count (Ok n) = n
added_count (Err refusal) = 0

-- "no job dated before the set changes": a job that is dated before a first day, or not at all
abbrev pub JobBefore : Option ℕ → ℕ → Type 0
JobBefore None first = Unit
JobBefore (Some day) first = day < first
