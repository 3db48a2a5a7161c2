-- The numbers of an arrangement by their place: number j of segment k stands at 4 × k + j, whatever stands behind the segments.
use Prim.Native.Nat.{ℕ, zero, suc, ◌+◌, ◌*◌, ◌≤◌, ◌<◌}
use mathlib.Core.List.{List, ◌++◌, append_assoc}
use mathlib.Core.Logic.{⊎_elim}
use mathlib.Core.Path.{◌≡◌, refl, ap, sym, ◌∙◌}
use lib.ListN.{length, get_or, length-append, get_or-append}
use lib.Seq.{get_or-append-add}
use native.Mathlib.Nat.{eq-or-lt_of_le}
use native.Mathlib.Omega.{arith}
use Rattle.standard.specs.Stretch.{Stretch, segment, segments, lists_joined}

module _ (g : ℕ) (S : ℕ → Stretch) where
  pub segments_length : (n : ℕ) → length (segments g S n) ≡ 4 * n
  unfolding segments lists_joined segment
  segments_length zero = refl
  segments_length (suc n) = simp length-append (omega (arith, segments_length n))

  last_place :
      (n i j : ℕ) (rest : List ℕ) → i ≡ 4 * n + j → j < 4 → get_or (segments g S n ++ (segment g S n ++ rest)) i 0 ≡ get_or (segment g S n) j 0
  unfolding segment
  last_place n i j rest e h =
      ap (λ (k : ℕ). get_or (segments g S n ++ (segment g S n ++ rest)) k 0) (omega (arith, segments_length n))
      ∙ (get_or-append-add (segments g S n) (segment g S n ++ rest) j 0 ∙ get_or-append (segment g S n) rest 0 j h)

  pub place : (n k i j : ℕ) (rest : List ℕ) → k < n → i ≡ 4 * k + j → j < 4 → get_or (segments g S n ++ rest) i 0 ≡ get_or (segment g S k) j 0
  unfolding segments lists_joined
  place zero k i j rest h e l = absurd (omega arith)
  place (suc n) k i j rest h e l =
      let q : k ≤ n = omega arith in
      ap (λ (m : List ℕ). get_or m i 0) (append_assoc (segments g S n) (segment g S n) rest)
      ∙ ⊎_elim
      (λ (w : k ≡ n). last_place n i j rest (omega arith) l ∙ ap (λ (m : ℕ). get_or (segment g S m) j 0) (sym w))
      (λ (w : k < n). place n k i j (segment g S n ++ rest) w e l)
      (eq-or-lt_of_le q)
