-- Rows: how long they are, and that those of a lent slice are those of the segments at its front.
use Prim.Native.Nat.{ℕ, zero, suc, ◌+◌, ◌-◌, ◌*◌, ◌≤◌}
use mathlib.Core.Bool.{true, false}
use mathlib.Core.List.{List, [], ◌∷◌, ◌++◌}
use mathlib.Core.Path.{◌≡◌, refl, ap, ◌∙◌}
use lib.ListN.{length, length-append}
use native.Mathlib.Omega.{arith}
use Rattle.figures.specs.declared.site.Site.{Site}
use Rattle.figures.specs.declared.roof.Roof.{Roof}
use Rattle.roof_rows.specs.Rows.{segment_rows, code_rows, codes_rows}
use Rattle.roof_rows.specs.Rows.{row_count, row_counts}
use Rattle.segment_rows.specs.Rows.{slice_rows}
use Rattle.standard.specs.Arrangements.{exists, count, stretch}
use Rattle.figures.specs.declared.national.National.{National}
use Rattle.standard.specs.Stretch.{Stretch, read_in, start_of, segment, segments}
use Rattle.standard.specs.Units.{parts}
use Rattle.standard.proofs.Segments.{place}
use Rattle.text.specs.Text.{row}
use Rattle.text.proofs.Writing.{short}

-- a row of six numbers
six_short : (a b c d e f : ℕ) → length (row (a ∷ b ∷ c ∷ d ∷ e ∷ f ∷ [])) ≤ 66
six_short a b c d e f = simp length-append (omega (arith, short a, short b, short c, short d, short e, short f))

module _ (S : ℕ → Stretch) where
  -- the rows of a slice that holds n segments at its front
  pub slice_rows_lem : (rest : List ℕ) (n item code k : ℕ) → k ≤ n → slice_rows (segments parts S n ++ rest) item code k ≡ segment_rows S item code k
  unfolding slice_rows segment_rows segment
  slice_rows_lem rest n item code zero h = refl
  slice_rows_lem rest n item code (suc k) h =
      simp (
        slice_rows_lem rest n item code k (omega arith),
        place parts S n k (4 * k) 0 rest (omega arith) (omega arith) (omega arith),
        place parts S n k (4 * k + 1) 1 rest (omega arith) (omega arith) (omega arith),
        place parts S n k (4 * k + 2) 2 rest (omega arith) (omega arith) (omega arith),
        place parts S n k (4 * k + 3) 3 rest (omega arith) (omega arith) (omega arith),
      )

  pub segments_short : (item code k : ℕ) → length (segment_rows S item code k) ≤ 66 * k
  unfolding segment_rows segment
  segments_short item code zero = omega arith
  segments_short item code (suc k) =
      omega (
        arith,
        length-append (segment_rows S item code k) (row (item ∷ code ∷ segment parts S k)),
        segments_short item code k,
        six_short item code (start_of S k) (start_of S k + (S k).extent) (read_in parts (S k) 0) (read_in parts (S k) (S k).extent),
      )

-- the rows of one code, where it exists and where not
module _ (national : National) (s : Site) (r : Roof) (item code : ℕ) where
  pub no_rows : exists s r code ≡ false → [] ≡ code_rows national s r item code
  unfolding code_rows
  no_rows e = rw e

  module _ (n : ℕ) (e : exists s r code ≡ true) (c : n ≡ count national r code) where
    pub rows_are : n ≡ row_count national s r code
    unfolding row_count
    rows_are = rw e c

    pub written_rows :
        (numbers rest : List ℕ) → numbers ≡ segments parts (stretch national s r code) n ++ rest
        → slice_rows numbers item code n ≡ code_rows national s r item code
    unfolding code_rows
    written_rows numbers rest f =
        ap (λ (l : List ℕ). slice_rows l item code n) f
        ∙ (slice_rows_lem (stretch national s r code) rest n item code n (omega arith) ∙ rw (e, c))

-- one code more
module _ (national : National) (s : Site) (r : Roof) where
  pub next_rows : (item code : ℕ) → 1 ≤ code → codes_rows national s r item (code - 1) ++ code_rows national s r item code ≡ codes_rows national s r item code
  unfolding codes_rows
  next_rows item zero h = absurd (omega arith)
  next_rows item (suc n) h = let e : suc n - 1 ≡ n = omega arith in rw e

  pub next_count : (code : ℕ) → 1 ≤ code → row_counts national s r (code - 1) + row_count national s r code ≡ row_counts national s r code
  unfolding row_counts
  next_count zero h = absurd (omega arith)
  next_count (suc n) h = let e : suc n - 1 ≡ n = omega arith in rw e
