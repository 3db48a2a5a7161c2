use Prim.Native.Nat.{suc, ◌+◌, ◌*◌, ◌-◌, ◌≤◌}
use Rattle.roof_rows.specs.Rows.{codes_rows, row_counts}
use Rattle.standard.specs.Codes.{highest_code}
use Rattle.text.specs.Written.{Wrote}
use Rattle.roof_rows.proofs.list_codes.Given as goal

abbrev pub invariant-loop-code : goal.invariant-loop-code
invariant-loop-code l =
    (l.code ≤ suc highest_code)
    × (l.out.at ≤ l.initial.out.at + 66 * row_counts l.figures.national l.figures.site l.figures.roof (l.code - 1))
    × Wrote l.initial.out (codes_rows l.figures.national l.figures.site l.figures.roof l.item (l.code - 1)) l.out
