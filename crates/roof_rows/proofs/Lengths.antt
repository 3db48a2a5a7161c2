-- How long a roof's rows can be.
use Prim.Native.Nat.{ℕ, zero, suc, ◌*◌, ◌≤◌}
use mathlib.Core.Bool.{Bool, true, false, cond}
use mathlib.Core.List.{[]}
use lib.ListN.{length, length-append}
use native.Mathlib.Omega.{arith}
use Rattle.figures.specs.declared.site.Site.{Site}
use Rattle.figures.specs.declared.roof.Roof.{Roof}
use Rattle.force_rows.proofs.Rows.{forces_short}
use Rattle.force_rows.specs.Rows.{force_rows}
use Rattle.roof_rows.proofs.Counts.{rows_most}
use Rattle.roof_rows.proofs.Lines.{segments_short}
use Rattle.roof_rows.specs.Rows.{segment_rows, code_rows, codes_rows, arrangement_rows, roof_rows, row_count, row_counts}
use Rattle.standard.specs.Arrangements.{exists, count, stretch}
use Rattle.figures.specs.Bounds.{FiguresIn}
use Rattle.standard.specs.Codes.{highest_code}
use Rattle.figures.specs.declared.national.National.{National}

module _ (national : National) (s : Site) (r : Roof) (item : ℕ) where
  code_by : (b : Bool) (code n : ℕ) → length (cond b (segment_rows (stretch national s r code) item code n) []) ≤ 66 * cond b n 0
  code_by true code n = segments_short (stretch national s r code) item code n
  code_by false code n = omega arith

  code_short : (code : ℕ) → length (code_rows national s r item code) ≤ 66 * row_count national s r code
  unfolding code_rows row_count
  code_short code = code_by (exists s r code) code (count national r code)

  codes_short : (n : ℕ) → length (codes_rows national s r item n) ≤ 66 * row_counts national s r n
  unfolding codes_rows row_counts
  codes_short zero = omega arith
  codes_short (suc n) =
      omega (
        arith,
        length-append (codes_rows national s r item n) (code_rows national s r item (suc n)),
        codes_short n,
        code_short (suc n),
      )

  arrangement_short : FiguresIn national s r → length (arrangement_rows national s r item) ≤ 8448
  unfolding arrangement_rows
  arrangement_short h = omega (arith, codes_short highest_code, rows_most national s r h)

pub roof_short : (national : National) (s : Site) (r : Roof) (item : ℕ) → FiguresIn national s r → length (roof_rows national s r item) ≤ 8624
unfolding roof_rows
roof_short national s r item h =
    omega (
      arith,
      length-append (arrangement_rows national s r item) (force_rows s r.shape item),
      arrangement_short national s r item h,
      forces_short s r.shape item,
    )
