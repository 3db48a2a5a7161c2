-- Following upper items: n steps show every circle, and where no roof comes back to itself, following ends.
use Prim.Native.Nat.{ℕ, zero, suc, ◌+◌, ◌-◌, ◌*◌, ◌≤◌, ◌<◌}
use mathlib.Core.Path.{◌≡◌, refl, sym, ap, ◌∙◌}
use mathlib.Core.Bool.{true, false}
use mathlib.Core.List.{List, [], ◌∷◌, ◌++◌}
use mathlib.Core.Logic.{◌⊎◌, inl, inr, ⊎_elim}
use borrow.Author.Tests.{eq-eqb, eqb-true}
use lib.Dec.{eqb}
use native.Mathlib.Nat.{eq-zero-or-pos, le-mul_of_pos_right}
use native.Mathlib.Omega.{arith}
use Rattle.circles.specs.Following.{meets, comes_back, listed}
use Rattle.figures.proofs.Tests.{told, clash, or_right}
use Rattle.circles.proofs.Lists.{listed_more, left, left_none, one_less, all_listed}

-- the item that k steps up lead to
unfoldable pub after : (ℕ → ℕ) → ℕ → ℕ → ℕ
after up zero i = i
after up (suc k) i = after up k (up i)

module _ (up : ℕ → ℕ) where
  after_add : (a b i : ℕ) → after up (a + b) i ≡ after up a (after up b i)
  unfolding after
  after_add a zero i = let e : a + 0 ≡ a = omega arith in rw e
  after_add a (suc b) i = let e : a + suc b ≡ suc (a + b) = omega arith in rw (e, after, after_add a b (up i))

  after_times : (k i : ℕ) → after up k i ≡ i → (t : ℕ) → after up (t * k) i ≡ i
  unfolding after
  after_times k i e zero = let z : 0 * k ≡ 0 = omega arith in rw z
  after_times k i e (suc t) = let s : suc t * k ≡ k + t * k = omega arith in rw (s, after_add k (t * k) i, after_times k i e t) e

  meets_after : (i j k n : ℕ) → k < n → after up k j ≡ i → meets up i j n ≡ true
  unfolding meets after
  meets_after i j k zero h e = absurd (omega arith)
  meets_after i j zero (suc n) h e = rw (eq-eqb j i e)
  meets_after i j (suc k) (suc n) h e = or_right (eqb j i) (meets up i (up j) n) (meets_after i (up j) k n (omega arith) e)

  -- steps that lead back, at most n
  comes_back_lem : (n k i : ℕ) → 0 < k → k ≤ n → after up k i ≡ i → comes_back up n i ≡ true
  unfolding comes_back after
  comes_back_lem n zero i p q e = absurd (omega arith)
  comes_back_lem n (suc k) i p q e = meets_after i (up i) k n (omega arith) e

  met : (i j n : ℕ) → meets up i j n ≡ true → (k : ℕ) × (k < n) × (after up k j ≡ i)
  unfolding meets after
  met i j zero h = clash h refl
  met i j (suc n) h =
      ⊎_elim (λ (w : eqb j i ≡ true). (0, omega arith, eqb-true j i w))
      (λ (w : eqb j i ≡ false). let r = met i (up j) n (rw w at h) in (suc r.0, omega arith, r.2))
      (told (eqb j i))

  pub led_back : (n i : ℕ) → comes_back up n i ≡ true → (k : ℕ) × (0 < k) × (after up k i ≡ i)
  unfolding comes_back after
  led_back n i h = let r = met i (up i) n h in (suc r.0, omega arith, r.2)

  -- the first s items from j on
  unfoldable path : ℕ → ℕ → List ℕ
  path j zero = []
  path j (suc s) = path j s ++ (after up s j ∷ [])

  in_path : (j s x : ℕ) → listed (path j s) x ≡ true → (t : ℕ) × (t < s) × (after up t j ≡ x)
  unfolding path listed
  in_path j zero x h = clash h refl
  in_path j (suc s) x h =
      ⊎_elim (λ (w : eqb (after up s j) x ≡ true). (s, omega arith, eqb-true (after up s j) x w))
      (λ (w : eqb (after up s j) x ≡ false).
      let r = in_path j s x (sym (rw w at (listed_more (path j s) (after up s j) x)) ∙ h) in
      (r.0, omega arith, r.2))
      (told (eqb (after up s j) x))

  module _ (n : ℕ) (below : (i : ℕ) → i < n → up i < n) where
    after_below : (k i : ℕ) → i < n → after up k i < n
    unfolding after
    after_below zero i h = h
    after_below (suc k) i h = after_below k (up i) (below i h)

    -- an item that two numbers of steps lead to
    Repeats : ℕ → Type 0
    Repeats j = (t : ℕ) × (s : ℕ) × (t < s) × (s ≤ n) × (after up t j ≡ after up s j)

    repeats_by : (j : ℕ) → j < n → (s : ℕ) → s ≤ n → Repeats j ⊎ (left (path j s) 0 n + s ≡ n)
    unfolding path Repeats
    repeats_by j h zero p = inr (omega (arith, left_none 0 n))
    repeats_by j h (suc s) p =
        ⊎_elim inl
        (λ (e : left (path j s) 0 n + s ≡ n).
        ⊎_elim (λ (w : listed (path j s) (after up s j) ≡ true). let r = in_path j s (after up s j) w in inl (r.0, s, r.1, omega arith, r.2))
        (λ (w : listed (path j s) (after up s j) ≡ false).
        inr (omega (arith, one_less (path j s) (after up s j) 0 n (omega arith) (omega (arith, after_below s j h)) w)))
        (told (listed (path j s) (after up s j))))
        (repeats_by j h s (omega arith))

    -- among n items, n steps come to an item twice
    repeats : (j : ℕ) → j < n → Repeats j
    unfolding Repeats
    repeats j h =
        ⊎_elim (λ r. r)
        (λ (e : left (path j n) 0 n + n ≡ n).
        let r = in_path j n (after up n j) (all_listed (path j n) 0 n (after up n j) (omega arith) (omega arith) (omega (arith, after_below n j h))) in
        (r.0, n, r.1, omega arith, r.2))
        (repeats_by j h n (omega arith))

    -- "following upper items from one comes back to it", after any number of steps
    pub n_steps : (i k : ℕ) → i < n → 0 < k → after up k i ≡ i → comes_back up n i ≡ true
    unfolding Repeats
    n_steps i k h p e =
        let r = repeats i h in
        let t = r.0 in
        let d = r.1 - t in
        let m : t ≤ t * k = le-mul_of_pos_right t p in
        let rest = t * k - t in
        let a : after up d (after up t i) ≡ after up t i = sym (after_add d t i) ∙ ap (λ s. after up s i) (omega arith) ∙ sym r.4 in
        let b : after up rest (after up t i) ≡ i = sym (after_add rest t i) ∙ ap (λ s. after up s i) (omega arith) ∙ after_times k i e t in
        let c : after up d (after up rest (after up t i)) ≡ after up rest (after up d (after up t i)) =
        sym (after_add d rest (after up t i)) ∙ ap (λ s. after up s (after up t i)) (omega arith) ∙ after_add rest d (after up t i) in
        comes_back_lem n d i (omega arith) (omega arith) (rw (a, b) at c)

    -- where no roof comes back to itself, following ends at the site's index
    pub ends : ((i : ℕ) → 0 < i → i < n → comes_back up n i ≡ false) → (i : ℕ) → i < n → (s : ℕ) × (after up s i ≡ 0)
    unfolding Repeats
    ends straight i h =
        let r = repeats i h in
        let x = after up r.0 i in
        let d = r.1 - r.0 in
        ⊎_elim (λ (z : x ≡ 0). (r.0, z))
        (λ (z : 0 < x).
        let a : after up d x ≡ x = sym (after_add d r.0 i) ∙ ap (λ s. after up s i) (omega arith) ∙ sym r.4 in
        clash (comes_back_lem n d x (omega arith) (omega arith) a) (straight x z (after_below r.0 i h)))
        (eq-zero-or-pos x)
