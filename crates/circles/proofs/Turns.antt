-- One turn of the loop that follows upper items.
use Prim.Native.Nat.{ℕ, zero, suc, ◌+◌, ◌-◌, ◌≤◌, ◌<◌}
use mathlib.Core.Path.{◌≡◌, refl}
use mathlib.Core.Bool.{true, false}
use borrow.Author.Tests.{eq-eqb, ne_eqb}
use native.Mathlib.Omega.{arith}
use Rattle.circles.specs.Following.{meets}

-- following from j, after k of n steps
module _ (up : ℕ → ℕ) (i j k n : ℕ) where
  pub meets_here : k < n → j ≡ i → meets up i j (n - k) ≡ true
  unfolding meets
  meets_here h e = let s : n - k ≡ suc (n - (k + 1)) = omega arith in rw (s, eq-eqb j i e)

  pub meets_next : k < n → (j ≡ i → ⊥) → meets up i j (n - k) ≡ meets up i (up j) (n - (k + 1))
  unfolding meets
  meets_next h e = let s : n - k ≡ suc (n - (k + 1)) = omega arith in rw (s, ne_eqb j i e)

  pub meets_end : n ≤ k → meets up i j (n - k) ≡ false
  unfolding meets
  meets_end h = let s : n - k ≡ 0 = omega arith in rw s

-- from the site's index, which has no upper item, following meets no roof
pub none_met : (up : ℕ → ℕ) (i k : ℕ) → up 0 ≡ 0 → 0 < i → meets up i 0 k ≡ false
unfolding meets
none_met up i zero e h = refl
none_met up i (suc k) e h = rw (ne_eqb 0 i (λ z. omega arith), e) (none_met up i k e h)
