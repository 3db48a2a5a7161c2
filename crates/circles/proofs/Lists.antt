-- A list with one item more, and the items that are not in a list.
use Prim.Native.Nat.{ℕ, zero, suc, ◌+◌, ◌≤◌, ◌<◌}
use mathlib.Core.Path.{◌≡◌, refl, ◌∙◌}
use mathlib.Core.Bool.{Bool, true, false, cond, ◌||◌}
use mathlib.Core.List.{List, [], ◌∷◌, ◌++◌}
use mathlib.Core.Logic.{⊎_elim}
use borrow.Author.Tests.{eq-eqb, ne_eqb}
use lib.Dec.{eqb}
use native.Mathlib.Nat.{eq-or-lt_of_le}
use native.Mathlib.Omega.{arith}
use Rattle.circles.specs.Following.{listed}
use Rattle.figures.proofs.Tests.{told, or_right}

pub listed_more : (l : List ℕ) (x i : ℕ) → listed (l ++ (x ∷ [])) i ≡ (eqb x i || listed l i)
unfolding listed
listed_more [] x i = refl
listed_more (y ∷ l) x i = rw (listed_more l x i) (swap (eqb y i) (eqb x i) (listed l i))
  where
    swap : (a b c : Bool) → (a || (b || c)) ≡ (b || (a || c))
    swap true true c = refl
    swap true false c = refl
    swap false b c = refl

module _ (l : List ℕ) (x : ℕ) where
  pub more_same : listed (l ++ (x ∷ [])) x ≡ true
  more_same = listed_more l x x ∙ rw (eq-eqb x x refl)

  pub more_other : (i : ℕ) → (x ≡ i → ⊥) → listed (l ++ (x ∷ [])) i ≡ listed l i
  more_other i h = listed_more l x i ∙ rw (ne_eqb x i h)

  pub more_kept : (i : ℕ) → listed l i ≡ true → listed (l ++ (x ∷ [])) i ≡ true
  more_kept i h = listed_more l x i ∙ or_right (eqb x i) (listed l i) h

-- how many of the k items from i on are not in a list
unfoldable pub left : List ℕ → ℕ → ℕ → ℕ
left l i zero = 0
left l i (suc k) = cond (listed l i) 0 1 + left l (suc i) k

pub left_none : (i k : ℕ) → left [] i k ≡ k
unfolding left listed
left_none i zero = refl
left_none i (suc k) = omega (arith, left_none (suc i) k)

same_left : (l : List ℕ) (x i k : ℕ) → x < i → left (l ++ (x ∷ [])) i k ≡ left l i k
unfolding left
same_left l x i zero h = refl
same_left l x i (suc k) h = rw (more_other l x i (λ e. omega arith), same_left l x (suc i) k (omega arith))

-- an item that was not in the list leaves one less
pub one_less : (l : List ℕ) (x i k : ℕ) → i ≤ x → x < i + k → listed l x ≡ false → left l i k ≡ suc (left (l ++ (x ∷ [])) i k)
unfolding left
one_less l x i zero p q h = absurd (omega arith)
one_less l x i (suc k) p q h =
    ⊎_elim (λ (w : i ≡ x). rw (w, h, more_same l x) (omega (arith, same_left l x (suc x) k (omega arith))))
    (λ (w : i < x). rw (more_other l x i (λ e. omega arith)) (omega (arith, one_less l x (suc i) k w (omega arith) h)))
    (eq-or-lt_of_le p)

pub all_listed : (l : List ℕ) (i k x : ℕ) → left l i k ≡ 0 → i ≤ x → x < i + k → listed l x ≡ true
unfolding left
all_listed l i zero x e p q = absurd (omega arith)
all_listed l i (suc k) x e p q =
    ⊎_elim (λ (t : listed l i ≡ true).
    ⊎_elim (λ (w : i ≡ x). rw w at t) (λ (w : i < x). all_listed l (suc i) k x (omega arith) w (omega arith)) (eq-or-lt_of_le p))
    (λ (t : listed l i ≡ false). let f : 1 + left l (suc i) k ≡ 0 = rw t at e in absurd (omega arith))
    (told (listed l i))

pub some_left : (l : List ℕ) (i k : ℕ) → 0 < left l i k → (x : ℕ) × (i ≤ x) × (x < i + k) × (listed l x ≡ false)
unfolding left
some_left l i zero h = absurd (omega arith)
some_left l i (suc k) h =
    ⊎_elim (λ (t : listed l i ≡ true).
    let f : 0 < 0 + left l (suc i) k = rw t at h in
    let r = some_left l (suc i) k (omega arith) in
    (r.0, omega arith, omega arith, r.3))
    (λ (t : listed l i ≡ false). (i, omega arith, omega arith, t))
    (told (listed l i))
