-- The rows of a roof's forces: which kinds have none, and how long they can be.
use Prim.Native.Nat.{ℕ, ◌≤◌}
use mathlib.Core.Bool.{false}
use mathlib.Core.List.{[], ◌∷◌}
use mathlib.Core.Path.{◌≡◌}
use lib.ListN.{length, length-append}
use native.Mathlib.Omega.{arith}
use Rattle.figures.specs.RoofRules.{kind_of}
use Rattle.figures.specs.declared.site.Site.{Site}
use Rattle.figures.specs.declared.roof.Shape.{Shape}
use Rattle.force_rows.specs.Rows.{force_row, slope_rows, force_rows}
use Rattle.standard.specs.Codes.{forces_in}
use Rattle.standard.specs.Forces as forces
use Rattle.figures.specs.Slopes.{slope_at}
use Rattle.standard.specs.Forces.{overhang_at, guard_at}
use Rattle.figures.proofs.Sides.{no_slopes}
use Rattle.text.specs.Text.{row}
use Rattle.text.proofs.Writing.{short}

-- a kind without local forces has no rows of them
pub no_forces :
    (s : Site) (shape : Shape) (item : ℕ) → forces_in (kind_of shape) ≡ false → [] ≡ force_rows s shape item
unfolding force_rows slope_rows overhang_at guard_at
no_forces s shape item e = rw (no_slopes shape 1 e, no_slopes shape 2 e)

four_short : (a b c d : ℕ) → length (row (a ∷ b ∷ c ∷ d ∷ [])) ≤ 44
four_short a b c d = simp length-append (omega (arith, short a, short b, short c, short d))

module _ (s : Site) (shape : Shape) (item : ℕ) where
  force_short : (code slope : ℕ) (f : forces.Force) → length (force_row item code slope f) ≤ 44
  force_short code slope (forces.force newtons) = four_short item code slope newtons
  force_short code slope forces.none = omega arith
  force_short code slope (forces.refused number) = omega arith

  slope_short : (slope : ℕ) → length (slope_rows s shape item slope) ≤ 88
  unfolding slope_rows
  slope_short slope =
      let eave = overhang_at s shape slope in
      let guard = guard_at s (slope_at shape slope) in
      omega (
        arith,
        length-append (force_row item 21 slope eave) (force_row item 22 slope guard),
        force_short 21 slope eave,
        force_short 22 slope guard,
      )

  pub forces_short : length (force_rows s shape item) ≤ 176
  unfolding force_rows
  forces_short = omega (arith, length-append (slope_rows s shape item 1) (slope_rows s shape item 2), slope_short 1, slope_short 2)
