-- What `snow_desk_verdict` answers beside `snow_verdict`.
use Prim.Native.Nat.{ℕ}
use mathlib.Core.Bool.{Bool, true, false, cond}
use mathlib.Core.List.{List}
use mathlib.Core.Path.{◌≡◌, refl, ap, ◌∙◌}
use Rattle.answer_codes.specs.Codes.{refusal_code, answer_code}
use Rattle.ceilings.proofs.Limits.{below_terminals}
use Rattle.ceilings.specs.Ceilings.{terminals, desk}
use Rattle.ceilings.specs.declared.Caller.TheVariants.{Desk}
use Rattle.figures.specs.Store.{store_refusal}
use Rattle.pairs.specs.Pairs.{Answer, refused}
use Rattle.sheet.proofs.Readers.{lower_verdict}
use Rattle.sheet.specs.Readers.{sheet_inside}
use Rattle.sheet.specs.Sheet.{sheet_verdict}

code_tested : (b : Bool) (v : Answer ℕ) → answer_code (cond b v (refused 1 0)) ≡ cond b (answer_code v) 2147549184
unfolding refusal_code
code_tested true v = refl
code_tested false v = refl

-- with an accepted store the same number on a sheet inside the desk's ceiling; otherwise 1, item 0, which is 0x80010000
pub desk_code :
    (store s : List ℕ) → store_refusal store ≡ 0
    → answer_code (sheet_verdict store desk s) ≡ cond (sheet_inside desk s) (answer_code (sheet_verdict store terminals s)) 2147549184
desk_code store s h =
    ap answer_code (lower_verdict store desk terminals (below_terminals Desk) s h) ∙ code_tested (sheet_inside desk s) (sheet_verdict store terminals s)
