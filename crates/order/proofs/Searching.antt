-- Laws of the lowest index that passes a test.
use Prim.Native.Nat.{ℕ, zero, suc, ◌+◌, ◌≤◌, ◌<◌}
use mathlib.Core.Path.{◌≡◌, sym, ◌∙◌}
use mathlib.Core.Bool.{Bool, true, false}
use mathlib.Core.Logic.{⊎_elim}
use native.Mathlib.Nat.{eq-or-lt_of_le}
use native.Mathlib.Omega.{arith}
use Rattle.figures.proofs.Tests.{told}
use Rattle.order.specs.Order.{lowest}

module _ (test : ℕ → Bool) where
  pub passes : (i : ℕ) → test i ≡ true → (k : ℕ) → lowest test i (suc k) ≡ i
  unfolding lowest
  passes i h k = rw h

  pub fails : (i : ℕ) → test i ≡ false → (k : ℕ) → lowest test i (suc k) ≡ lowest test (suc i) k
  unfolding lowest
  fails i h k = rw h

  -- no index fails to be found
  pub none : (i k : ℕ) → 0 < i → lowest test i k ≡ 0 → (j : ℕ) → i ≤ j → j < i + k → test j ≡ false
  none i zero h e j p q = absurd (omega arith)
  none i (suc k) h e j p q =
      ⊎_elim (λ (t : test i ≡ true). absurd (omega (arith, passes i t k)))
      (λ (t : test i ≡ false).
      ⊎_elim (λ (w : i ≡ j). rw w at t) (λ (w : i < j). none (suc i) k (omega arith) (sym (fails i t k) ∙ e) j w (omega arith)) (eq-or-lt_of_le p))
      (told (test i))

  -- what is found passes, and is one of the indexes
  pub found : (i k : ℕ) → 0 < lowest test i k → (test (lowest test i k) ≡ true) × (i ≤ lowest test i k) × (lowest test i k < i + k)
  unfolding lowest
  found i zero h = absurd (omega arith)
  found i (suc k) h =
      ⊎_elim (λ (t : test i ≡ true). let e = passes i t k in (rw e t, omega arith, omega arith))
      (λ (t : test i ≡ false).
      let e = fails i t k in
      let f = found (suc i) k (rw e at h) in
      (rw e f.0, omega arith, omega arith))
      (told (test i))

  -- the index that passes where those before it fail
  pub first : (i k x : ℕ) → i ≤ x → x < i + k → test x ≡ true → ((j : ℕ) → i ≤ j → j < x → test j ≡ false) → lowest test i k ≡ x
  first i zero x p q t f = absurd (omega arith)
  first i (suc k) x p q t f =
      ⊎_elim (λ (w : i ≡ x). passes i (rw w t) k ∙ w)
      (λ (w : i < x). fails i (f i (omega arith) w) k ∙ first (suc i) k x w (omega arith) t (λ j a b. f j (omega arith) b))
      (eq-or-lt_of_le p)
