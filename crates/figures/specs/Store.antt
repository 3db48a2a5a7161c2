-- The store of national sets that every call is lent, document 02, A8: its refusal, and the set in use on a job day.
use Rattle.std.specs.Prelude.{ℕ, zero, suc, ◌+◌, ◌*◌, Bool, true, cond, ◌&&◌, List, ◌≡◌, leb, eqb, length, get_or, Option, Some, None}
use Rattle.figures.specs.National.{recommended_figures, figures_sound}
use Rattle.figures.specs.Ranges.{within}
use Rattle.figures.specs.declared.national.National.{National}
use Rattle.figures.specs.declared.national.NationalSet.{NationalSet}

-- "The store is 193 numbers of 32 bits: the count, then six a set in that order, low before high": the number of sets
abbrev pub set_count : List ℕ → ℕ
set_count store = get_or store 0 0

-- where set i begins, from 0
abbrev pub set_start : ℕ → ℕ
set_start i = 1 + 6 * i

-- the set whose six numbers begin at a place: its first day, and its figures
abbrev pub set_from : List ℕ → ℕ → NationalSet
set_from numbers at =
    record {
      day = get_or numbers at 0;
      figures =
          record {
            arch = get_or numbers (at + 1) 0;
            low = get_or numbers (at + 2) 0;
            high = get_or numbers (at + 3) 0;
            short = get_or numbers (at + 4) 0;
            long = get_or numbers (at + 5) 0;
          };
    }

abbrev pub set_at : List ℕ → ℕ → NationalSet
set_at store i = set_from store (set_start i)

-- "a first day (16 bits, strictly later than the one before)": the earliest that the set behind the first n may have
abbrev pub earliest_day : (ℕ → NationalSet) → ℕ → ℕ
earliest_day run zero = 0
earliest_day run (suc n) = (run n).day + 1

-- a set keeps its ranges, and its first day is the earliest that it may have or a later one
unfoldable pub set_sound : ℕ → NationalSet → Bool
set_sound first s = within first 65535 s.day && figures_sound s.figures

-- each of the first n sets may stand where it does
unfoldable pub sets_sound : (ℕ → NationalSet) → ℕ → Bool
sets_sound run zero = true
sets_sound run (suc n) = sets_sound run n && set_sound (earliest_day run n) (run n)

-- "the lent store isn't 193 numbers, holds more than 32"
abbrev pub store_fits : ℕ → ℕ → Bool
store_fits numbers count = eqb numbers 193 && leb count 32

-- 18 for a store that breaks a rule, 0 for one that keeps them all; numbers behind the last set are free
unfoldable pub store_refusal : List ℕ → ℕ
store_refusal store = cond (store_fits (length store) (set_count store) && sets_sound (set_at store) (set_count store)) 0 18

-- "The job uses the last set whose first day isn't after the job day", of the first n: its figures, or none begun
unfoldable pub last_begun : (ℕ → NationalSet) → ℕ → ℕ → Option National
last_begun run day zero = None
last_begun run day (suc n) = cond (leb (run n).day day) (Some (run n).figures) (last_begun run day n)

-- "A site without a day uses the recommended figures, as now"
unfoldable pub set_in_use : List ℕ → Option ℕ → Option National
set_in_use store None = Some recommended_figures
set_in_use store (Some day) = last_begun (set_at store) day (set_count store)

-- "19 when a dated job has no set begun": its number, 0 where one has
abbrev pub begun_number : Option National → ℕ
begun_number None = 19
begun_number (Some figures) = 0

unfoldable pub day_refusal : List ℕ → Option ℕ → ℕ
day_refusal store day = begun_number (set_in_use store day)

-- the figures of the set in use; where none has begun the job is refused, and they are the recommended ones
abbrev pub begun_figures : Option National → National
begun_figures None = recommended_figures
begun_figures (Some figures) = figures

unfoldable pub figures_in_use : List ℕ → Option ℕ → National
figures_in_use store day = begun_figures (set_in_use store day)

-- two stores alike for a job of a day, in all that a call asks of a store
pub record SameFor (a b : List ℕ) (day : Option ℕ) : Type 0 where
  pub refusal : store_refusal a ≡ store_refusal b
  pub set : set_in_use a day ≡ set_in_use b day
