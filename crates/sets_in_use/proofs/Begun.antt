-- Whether a set has begun is told by the first one.
use Prim.Native.Nat.{ℕ, zero, suc}
use mathlib.Core.Bool.{Bool, true, false, cond, ◌||◌}
use mathlib.Core.List.{List}
use mathlib.Core.Path.{◌≡◌, refl, ap}
use borrow.Author.Tests.{ne_eqb, ltb-true, ltb-false}
use lib.Dec.{eqb, ltb}
use native.Mathlib.Omega.{arith}
use Rattle.figures.proofs.Stores.{store_kept, none_yet, one_begun}
use Rattle.figures.specs.Store.{set_count, set_at, sets_sound, store_refusal, last_begun, begun_number}
use Rattle.figures.specs.declared.national.NationalSet.{NationalSet}

by_first :
    (run : ℕ → NationalSet) (day n : ℕ) (b : Bool) → sets_sound run n ≡ true → ltb day (run 0).day ≡ b
    → begun_number (last_begun run day n) ≡ cond (eqb n 0 || b) 19 0
unfolding last_begun
by_first run day zero b h e = refl
by_first run day (suc n) true h e =
    rw (ne_eqb (suc n) 0 (λ z. omega arith)) (ap begun_number (none_yet run day (suc n) h (ltb-true day (run 0).day e)))
by_first run day (suc n) false h e = rw (ne_eqb (suc n) 0 (λ z. omega arith)) (one_begun run day n (ltb-false day (run 0).day e))

pub by_the_first :
    (store : List ℕ) (day : ℕ) → store_refusal store ≡ 0
    → begun_number (last_begun (set_at store) day (set_count store)) ≡ cond (eqb (set_count store) 0 || ltb day (set_at store 0).day) 19 0
by_the_first store day h = by_first (set_at store) day (set_count store) (ltb day (set_at store 0).day) (store_kept store h).sound refl
