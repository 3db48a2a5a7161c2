-- A rule at every number below a bound, by one test that is computed.
use Prim.Native.Nat.{ℕ, zero, suc, ◌<◌}
use mathlib.Core.Bool.{Bool, true, false}
use mathlib.Core.Logic.{⊎_elim}
use mathlib.Core.Path.{◌≡◌, sym, subst}
use lib.Dec.{T}
use native.Mathlib.Nat.{eq-or-lt_of_le, le_of_suc-le-suc, not-suc-le-zero}

abbrev pub both : Bool → Bool → Bool
both true b = b
both false b = false

pub both_left : (a b : Bool) → T (both a b) → T a
both_left true b t = tt
both_left false b t = absurd t

pub both_right : (a b : Bool) → T (both a b) → T b
both_right true b t = t
both_right false b t = absurd t

-- the test passes at every number below n
abbrev pub every : (ℕ → Bool) → ℕ → Bool
every test zero = true
every test (suc n) = both (test n) (every test n)

pub every_at : (test : ℕ → Bool) (n : ℕ) → T (every test n) → (k : ℕ) → k < n → T (test k)
every_at test zero t k h = absurd (not-suc-le-zero h)
every_at test (suc n) t k h =
    ⊎_elim
    (λ (same : k ≡ n). subst (λ (m : ℕ). T (test m)) (sym same) (both_left (test n) (every test n) t))
    (λ (below : k < n). every_at test n (both_right (test n) (every test n) t) k below)
    (eq-or-lt_of_le (le_of_suc-le-suc h))
