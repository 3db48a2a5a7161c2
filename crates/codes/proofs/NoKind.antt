-- A number that no kind has: no arrangement exists for it.
use Prim.Native.Nat.{ℕ, zero, suc, ◌-◌, ◌<◌}
use mathlib.Core.Bool.{Bool, true, false, cond, ◌&&◌}
use mathlib.Core.Path.{◌≡◌, refl}
use borrow.Author.Tests.{ne_eqb, le-leb, lt-leb, leb-false}
use native.Mathlib.Omega.{arith}
use Rattle.figures.specs.Ranges.{within}
use Rattle.standard.specs.Codes.{persistent_by, drift_kind, exists_in}

-- it is 0, or above the last
above : (n : ℕ) → within 1 12 (suc n) ≡ false → 12 < suc n
above n e = leb-false (suc n) 12 (rw (le-leb 1 (suc n) (omega arith)) at e)

no_shape : (kind code : ℕ) → within 1 12 kind ≡ false → persistent_by kind code ≡ false
no_shape zero code e = refl
no_shape (suc n) code e =
    let h = above n e in
    rw (
      ne_eqb (suc n) 2 (λ y. omega arith),
      ne_eqb (suc n) 3 (λ y. omega arith),
      ne_eqb (suc n) 7 (λ y. omega arith),
      le-leb 4 (suc n) (omega arith),
      le-leb 9 (suc n) (omega arith),
      lt-leb (suc n) 6 (omega arith),
      lt-leb (suc n) 10 (omega arith),
    )

no_drifts : (kind : ℕ) → within 1 12 kind ≡ false → drift_kind kind ≡ false
no_drifts zero e = refl
no_drifts (suc n) e =
    let h = above n e in
    rw (ne_eqb (suc n) 9 (λ y. omega arith), le-leb 11 (suc n) (omega arith), lt-leb (suc n) 12 (omega arith))

none_by : (a x : Bool) → false ≡ cond a (x && false) false
none_by true true = refl
none_by true false = refl
none_by false x = refl

pub none_exists : (kind situation drifts code : ℕ) → within 1 12 kind ≡ false → false ≡ exists_in kind situation drifts code
unfolding exists_in
none_exists kind situation drifts code e = rw (no_shape kind code e, no_shape kind (code - 10) e, no_drifts kind e) (none_by _ _)
