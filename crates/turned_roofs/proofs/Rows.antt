-- A row whose first elements stand in reverse order: element i from the left is element i from the right of those, and twice is the row.
use Prim.Native.Nat.{ℕ, suc, ◌+◌, ◌-◌, ◌≤◌, min}
use mathlib.Core.List.{List, [], ◌∷◌, ◌++◌, reverse, append-nil, reverse-reverse}
use mathlib.Core.Path.{◌≡◌, refl, ap, ◌∙◌}
use lib.ListN.{length, take, drop, get_or, length-take, length-reverse, get_or-append, take-append-drop, drop_of_length-le}
use lib.Seq.{get_or-take, get_or-drop, get_or-append_right, take_at, drop_at, take_all}
use native.Mathlib.Decide.{dec_le}
use native.Mathlib.Omega.{arith}
use Rattle.std.proofs.lemmas.List.{take_min, drop_min, get_or-reverse}
use Rattle.turned_roofs.specs.Turned.{row_reversed}

pub row_worked : row_reversed {X = ℕ} (1 ∷ 2 ∷ 3 ∷ 4 ∷ 5 ∷ []) 4 ≡ 4 ∷ 3 ∷ 2 ∷ 1 ∷ 5 ∷ []
unfolding row_reversed
row_worked = refl

module _ {X : Type 0} where
  pub row_at : (row : List X) (d : X) (n i j : ℕ) → n ≤ length row → suc (i + j) ≡ n → get_or (row_reversed row n) i d ≡ get_or row j d
  unfolding row_reversed
  row_at row d n i j h e =
      let t : length (take n row) ≡ n = omega (arith, length-take n row) in
      let r : length (reverse (take n row)) ≡ n = omega (arith, length-reverse (take n row)) in
      let k : length (take n row) - 1 - i ≡ j = omega arith in
      get_or-append (reverse (take n row)) (drop n row) d i (omega arith)
      ∙ get_or-reverse (take n row) i d (omega arith)
      ∙ ap (λ (m : ℕ). get_or (take n row) m d) k
      ∙ get_or-take n row j d (omega arith)

  pub row_behind : (row : List X) (d : X) (n i : ℕ) → n ≤ length row → n ≤ i → get_or (row_reversed row n) i d ≡ get_or row i d
  unfolding row_reversed
  row_behind row d n i h b =
      let r : length (reverse (take n row)) ≡ n = omega (arith, length-reverse (take n row), length-take n row) in
      let k : n + (i - length (reverse (take n row))) ≡ i = omega arith in
      get_or-append_right (reverse (take n row)) (drop n row) i d (omega arith)
      ∙ get_or-drop n row (i - length (reverse (take n row))) d
      ∙ ap (λ (m : ℕ). get_or row m d) k

  -- a row that is shorter than the count is reversed whole
  pub no_longer : (row : List X) (n : ℕ) → row_reversed row (min n (length row)) ≡ row_reversed row n
  unfolding row_reversed
  no_longer row n = rw (take_min n row, drop_min n row)

  front_twice :
      (front row : List X) (n : ℕ) → length front ≡ length (take n row)
      → (take n (front ++ drop n row) ≡ front) × (drop n (front ++ drop n row) ≡ drop n row)
  front_twice front row n e =
      elim (dec_le n (length row)) [
        | yes a ↦
            let k : length front ≡ n = omega (arith, length-take n row) in
            (take_at front (drop n row) n k, drop_at front (drop n row) n k)
        | no a ↦
            let k : length front ≤ n = omega (arith, length-take n row) in
            let z = drop_of_length-le row {i = n} (omega arith) in
            rw (z, append-nil front) (take_all n front k, drop_of_length-le front {i = n} k)
      ]

  pub row_twice : (row : List X) (n : ℕ) → row_reversed (row_reversed row n) n ≡ row
  unfolding row_reversed
  row_twice row n =
      let w = front_twice (reverse (take n row)) row n (length-reverse (take n row)) in
      rw (w.0, w.1, reverse-reverse (take n row)) (take-append-drop n row)
