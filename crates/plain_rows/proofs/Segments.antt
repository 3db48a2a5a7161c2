-- The rows of segments, one segment more, and those of a slice that is cut into segments.
use Prim.Native.Nat.{ℕ, zero, suc, ◌+◌, ◌*◌, ◌≤◌, ◌<◌}
use mathlib.Core.Path.{◌≡◌, refl, ap, sym, ◌∙◌}
use mathlib.Core.List.{List, [], ◌∷◌, ◌++◌, append_assoc, append-nil}
use lib.ListN.{length, get_or, take, drop, length-drop}
use native.Mathlib.Nat.{add-zero}
use Rattle.std.proofs.lemmas.List.{get_or-drop, drop-drop}
use lib.Seq.{take-suc}
use native.Mathlib.Numerals.{add-one}
use native.Mathlib.Omega.{arith}
use Rattle.std.specs.Simd.{first_chunks}
use Rattle.text.specs.Text.{row}
use Rattle.plain_rows.specs.Rows.{rows_of, slice_row, slice_rows}

module _ (item code : ℕ) where
  pub rows_append : (ss : List (List ℕ)) (s : List ℕ) → rows_of item code (ss ++ (s ∷ [])) ≡ rows_of item code ss ++ row (item ∷ code ∷ s)
  rows_append [] s = append-nil (row (item ∷ code ∷ s))
  rows_append (t ∷ ss) s =
      ap (λ (l : List ℕ). row (item ∷ code ∷ t) ++ l) (rows_append ss s)
      ∙ sym (append_assoc (row (item ∷ code ∷ t)) (rows_of item code ss) (row (item ∷ code ∷ s)))

  pub rows_more : (ss : List (List ℕ)) (i : ℕ) → i < length ss
      → rows_of item code (take i ss) ++ row (item ∷ code ∷ get_or ss i []) ≡ rows_of item code (take (i + 1) ss)
  rows_more ss i h =
      sym (ap (λ (k : ℕ). rows_of item code (take k ss)) (add-one i)
      ∙ (ap (rows_of item code) (take-suc ss i [] h) ∙ rows_append (take i ss) (get_or ss i [])))

-- the last of the segments of a slice
last_chunk : (n : ℕ) (xs : List ℕ) → first_chunks 4 (suc n) xs ≡ first_chunks 4 n xs ++ (take 4 (drop (4 * n) xs) ∷ [])
last_chunk zero xs = refl
last_chunk (suc n) xs =
    let e : 4 + 4 * n ≡ 4 * suc n = omega arith in
    ap (λ (l : List (List ℕ)). take 4 xs ∷ l) (last_chunk n (drop 4 xs))
    ∙ ap (λ (l : List ℕ). (take 4 xs ∷ first_chunks 4 n (drop 4 xs)) ++ (take 4 l ∷ [])) (drop-drop (4 * n) 4 xs ∙ ap (λ (k : ℕ). drop k xs) e)

four : (xs : List ℕ) → 4 ≤ length xs → take 4 xs ≡ get_or xs 0 0 ∷ get_or xs 1 0 ∷ get_or xs 2 0 ∷ get_or xs 3 0 ∷ []
four [] h = absurd (omega arith)
four (a ∷ []) h = absurd (omega arith)
four (a ∷ b ∷ []) h = absurd (omega arith)
four (a ∷ b ∷ c ∷ []) h = absurd (omega arith)
four (a ∷ b ∷ c ∷ d ∷ xs) h = refl

module _ (xs : List ℕ) (item code : ℕ) where
  row_at : (n : ℕ) → 4 * n + 4 ≤ length xs → row (item ∷ code ∷ take 4 (drop (4 * n) xs)) ≡ slice_row xs item code n
  row_at n h =
      let size : 4 ≤ length (drop (4 * n) xs) = omega (arith, length-drop (4 * n) xs) in
      ap (λ (l : List ℕ). row (item ∷ code ∷ l)) (four (drop (4 * n) xs) size)
      ∙ simp (get_or-drop, add-zero)

  pub segments_are : (n : ℕ) → 4 * n ≤ length xs → rows_of item code (first_chunks 4 n xs) ≡ slice_rows xs item code n
  unfolding slice_rows
  segments_are zero h = refl
  segments_are (suc n) h =
      ap (rows_of item code) (last_chunk n xs)
      ∙ (rows_append item code (first_chunks 4 n xs) (take 4 (drop (4 * n) xs))
      ∙ (ap (λ (l : List ℕ). l ++ row (item ∷ code ∷ take 4 (drop (4 * n) xs))) (segments_are n (omega arith))
      ∙ ap (λ (l : List ℕ). slice_rows xs item code n ++ l) (row_at n (omega arith))))
