-- Stores and added sets worked by hand: two sets, from days 100 and 200.
use Prim.Native.Nat.{ℕ}
use mathlib.Core.List.{List, [], ◌∷◌, ◌++◌}
use mathlib.Core.Path.{◌≡◌, refl}
use lib.ListN.{replicate}
use Rattle.std.specs.Prelude.{Some, None, Ok, Err}
use Rattle.figures.specs.Store.{set_sound, sets_sound, store_refusal, last_begun, set_in_use, day_refusal, figures_in_use}
use Rattle.figures.specs.declared.national.National.{National}
use Rattle.figures.specs.declared.refusal.Refusal.TheVariants.{Store}
use Rattle.added_sets.specs.Adding.{add_refusal, with_set, add_answer, store_after}

abbrev empty : List ℕ
empty = replicate 193 0

abbrev one : List ℕ
one = (1 ∷ 100 ∷ 200 ∷ 80 ∷ 400 ∷ 5000 ∷ 15000 ∷ []) ++ replicate 186 0

abbrev two : List ℕ
two = (2 ∷ 100 ∷ 200 ∷ 80 ∷ 400 ∷ 5000 ∷ 15000 ∷ 200 ∷ 250 ∷ 60 ∷ 300 ∷ 1000 ∷ 30000 ∷ []) ++ replicate 180 0

-- a count, and what stands behind it
abbrev store : ℕ → List ℕ → ℕ → List ℕ
store count sets behind = (count ∷ sets) ++ replicate behind 7

-- day 100 and the set of day 200
abbrev first : National
first = record { arch = 200; low = 80; high = 400; short = 5000; long = 15000 }

abbrev second : National
second = record { arch = 250; low = 60; high = 300; short = 1000; long = 30000 }

-- no day, before the first set, on its day, before and on the second's day, long after
pub days_in_use :
    (set_in_use empty None ≡ Some first) × (set_in_use empty (Some 65535) ≡ None) × (set_in_use two (Some 99) ≡ None)
    × (set_in_use two (Some 100) ≡ Some first) × (set_in_use two (Some 199) ≡ Some first) × (set_in_use two (Some 200) ≡ Some second)
    × (set_in_use two (Some 65535) ≡ Some second) × (set_in_use two None ≡ Some first)
    × (day_refusal two (Some 99) ≡ 19) × (day_refusal two (Some 100) ≡ 0) × (day_refusal empty None ≡ 0) × (figures_in_use two (Some 200) ≡ second)
unfolding set_in_use last_begun day_refusal figures_in_use
days_in_use = (refl, refl, refl, refl, refl, refl, refl, refl, refl, refl, refl, refl)

-- what keeps every rule, with anything behind the last set
pub stores_accepted :
    (store_refusal empty ≡ 0) × (store_refusal two ≡ 0) × (store_refusal (store 0 [] 192) ≡ 0)
    × (store_refusal (store 1 (0 ∷ 1 ∷ 1 ∷ 1 ∷ 1000 ∷ 1000 ∷ []) 186) ≡ 0)
    × (store_refusal (store 1 (65535 ∷ 800 ∷ 800 ∷ 800 ∷ 30000 ∷ 30000 ∷ []) 186) ≡ 0)
    × (store_refusal (store 2 (5 ∷ 1 ∷ 1 ∷ 1 ∷ 1000 ∷ 1000 ∷ 6 ∷ 1 ∷ 1 ∷ 1 ∷ 1000 ∷ 1000 ∷ []) 180) ≡ 0)
unfolding store_refusal sets_sound set_sound
stores_accepted = (refl, refl, refl, refl, refl, refl)

-- 18: another length, too many sets, each range, a low above its high, a day that isn't later
pub stores_refused :
    (store_refusal [] ≡ 18) × (store_refusal (store 0 [] 191) ≡ 18) × (store_refusal (store 0 [] 193) ≡ 18) × (store_refusal (store 33 [] 192) ≡ 18)
    × (store_refusal (store 1 (65536 ∷ 200 ∷ 80 ∷ 400 ∷ 5000 ∷ 15000 ∷ []) 186) ≡ 18)
    × (store_refusal (store 1 (0 ∷ 0 ∷ 80 ∷ 400 ∷ 5000 ∷ 15000 ∷ []) 186) ≡ 18)
    × (store_refusal (store 1 (0 ∷ 801 ∷ 80 ∷ 400 ∷ 5000 ∷ 15000 ∷ []) 186) ≡ 18)
    × (store_refusal (store 1 (0 ∷ 200 ∷ 0 ∷ 400 ∷ 5000 ∷ 15000 ∷ []) 186) ≡ 18)
    × (store_refusal (store 1 (0 ∷ 200 ∷ 80 ∷ 801 ∷ 5000 ∷ 15000 ∷ []) 186) ≡ 18)
    × (store_refusal (store 1 (0 ∷ 200 ∷ 81 ∷ 80 ∷ 5000 ∷ 15000 ∷ []) 186) ≡ 18)
    × (store_refusal (store 1 (0 ∷ 200 ∷ 80 ∷ 400 ∷ 999 ∷ 15000 ∷ []) 186) ≡ 18)
    × (store_refusal (store 1 (0 ∷ 200 ∷ 80 ∷ 400 ∷ 5000 ∷ 30001 ∷ []) 186) ≡ 18)
    × (store_refusal (store 1 (0 ∷ 200 ∷ 80 ∷ 400 ∷ 5001 ∷ 5000 ∷ []) 186) ≡ 18)
    × (store_refusal (store 2 (5 ∷ 1 ∷ 1 ∷ 1 ∷ 1000 ∷ 1000 ∷ 5 ∷ 1 ∷ 1 ∷ 1 ∷ 1000 ∷ 1000 ∷ []) 180) ≡ 18)
unfolding store_refusal sets_sound set_sound
stores_refused = (refl, refl, refl, refl, refl, refl, refl, refl, refl, refl, refl, refl, refl, refl)

pub sets_added :
    (add_answer empty (100 ∷ 200 ∷ 80 ∷ 400 ∷ 5000 ∷ 15000 ∷ []) ≡ Ok 1)
    × (store_after empty (100 ∷ 200 ∷ 80 ∷ 400 ∷ 5000 ∷ 15000 ∷ []) ≡ one)
    × (add_answer one (200 ∷ 250 ∷ 60 ∷ 300 ∷ 1000 ∷ 30000 ∷ []) ≡ Ok 2)
    × (store_after one (200 ∷ 250 ∷ 60 ∷ 300 ∷ 1000 ∷ 30000 ∷ []) ≡ two)
    × (add_answer one (100 ∷ 250 ∷ 60 ∷ 300 ∷ 1000 ∷ 30000 ∷ []) ≡ Err Store)
    × (add_answer one (200 ∷ 250 ∷ 301 ∷ 300 ∷ 1000 ∷ 30000 ∷ []) ≡ Err Store)
    × (store_after one (200 ∷ 250 ∷ 301 ∷ 300 ∷ 1000 ∷ 30000 ∷ []) ≡ one)
    × (add_answer one (200 ∷ 250 ∷ 60 ∷ 300 ∷ 1000 ∷ []) ≡ Err Store)
    × (add_answer one (200 ∷ 250 ∷ 60 ∷ 300 ∷ 1000 ∷ 30000 ∷ 0 ∷ []) ≡ Err Store)
    × (add_answer [] (200 ∷ 250 ∷ 60 ∷ 300 ∷ 1000 ∷ 30000 ∷ []) ≡ Err Store)
unfolding add_answer store_after add_refusal with_set store_refusal sets_sound set_sound
sets_added = (refl, refl, refl, refl, refl, refl, refl, refl, refl, refl)
