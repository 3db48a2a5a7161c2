-- The first segments of a slice, and their rows.
use Prim.Native.Nat.{ℕ, zero, suc, ◌+◌, ◌*◌, ◌/◌, ◌≤◌}
use mathlib.Core.Path.{◌≡◌, refl, ap, ◌∙◌}
use mathlib.Core.List.{List}
use lib.ListN.{length, take}
use native.Mathlib.Omega.{arith}
use Rattle.std.proofs.lemmas.List.{get_or-take, length-take-le}
use Rattle.segment_rows.specs.Rows.{slice_rows}

pub front_count : (xs : List ℕ) (n : ℕ) → 4 * n ≤ length xs → length (take (4 * n) xs) / 4 ≡ n
front_count xs n h = let e = length-take-le (4 * n) xs h in omega (arith, e)

module _ (xs : List ℕ) (item code : ℕ) where
  kept : (n k : ℕ) → k ≤ n → slice_rows (take (4 * n) xs) item code k ≡ slice_rows xs item code k
  unfolding slice_rows
  kept n zero h = refl
  kept n (suc k) h =
      simp (
        kept n k (omega arith),
        get_or-take (4 * n) xs (4 * k) 0 (omega arith),
        get_or-take (4 * n) xs (4 * k + 1) 0 (omega arith),
        get_or-take (4 * n) xs (4 * k + 2) 0 (omega arith),
        get_or-take (4 * n) xs (4 * k + 3) 0 (omega arith),
      )

  pub front_rows : (n : ℕ) → 4 * n ≤ length xs → slice_rows (take (4 * n) xs) item code (length (take (4 * n) xs) / 4) ≡ slice_rows xs item code n
  front_rows n h = ap (slice_rows (take (4 * n) xs) item code) (front_count xs n h) ∙ kept n n (omega arith)
