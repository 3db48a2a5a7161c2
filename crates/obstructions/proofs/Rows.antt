-- The row of a drift at an obstruction: which of its stretches are there.
use Prim.Native.Nat.{ℕ, suc, ◌+◌, ◌≤◌, ◌<◌}
use mathlib.Core.Bool.{Bool, true, false, cond}
use mathlib.Core.Path.{◌≡◌, refl, subst}
use borrow.Author.Tests.{ltb-true, ltb-false}
use lib.Dec.{ltb}
use native.Mathlib.Omega.{arith}
use Rattle.figures.specs.Bounds.{ObstructionIn}
use Rattle.figures.specs.declared.roof.Obstruction.{Obstruction}
use Rattle.standard.specs.Drift.{drift_index, drift_count}
use Rattle.standard.specs.Obstruction.{obstruction_lengths}
use Rattle.standard.specs.declared.Lengths.{Lengths}
use Rattle.standard.proofs.Drift.{few_stretches}
use Rattle.standard.proofs.Obstruction.{lengths_in, obstruction_end_most}
use Rattle.obstructions.specs.Rows.{Present, RowIn}

-- what holds of an obstruction holds of what it is known to be
pub known_in : {by known : Obstruction} → by ≡ known → ObstructionIn by → ObstructionIn known
known_in e f = subst (λ (o : Obstruction). ObstructionIn o) e f

-- every index below the count has a stretch of the row
module _ (l : Lengths) (i : ℕ) (up : 0 < l.before → 0 < l.up) (lt : i < drift_count l) where
  present : Present l (drift_index l i)
  unfolding drift_index drift_count
  present = go (ltb 0 l.before) (ltb 0 l.up) (ltb 0 l.after) (ltb-true _ _) (ltb-true _ _) (ltb-true _ _) (ltb-false _ _) lt
    where
      go :
          (a b d : Bool) → (a ≡ true → 0 < l.before) → (b ≡ true → 0 < l.up) → (d ≡ true → 0 < l.after) → (b ≡ false → l.up ≤ 0)
          → i < cond a 1 0 + (cond b 1 0 + (1 + cond d 1 0)) → Present l (cond a i (cond b (suc i) (suc (suc i))))
      go true true true f g k g' h = record { first = λ z. f refl; second = λ z. g refl; last = λ z. k refl }
      go true true false f g k g' h = record { first = λ z. f refl; second = λ z. g refl; last = λ z. absurd (omega arith) }
      go true false d f g k g' h = absurd (omega (arith, up (f refl), g' refl))
      go false true true f g k g' h = record { first = λ z. absurd (omega arith); second = λ z. g refl; last = λ z. k refl }
      go false true false f g k g' h = record { first = λ z. absurd (omega arith); second = λ z. g refl; last = λ z. absurd (omega arith) }
      go false false true f g k g' h = record { first = λ z. absurd (omega arith); second = λ z. absurd (omega arith); last = λ z. k refl }
      go false false false f g k g' h =
          record { first = λ z. absurd (omega arith); second = λ z. absurd (omega arith); last = λ z. absurd (omega arith) }

-- a row of an accepted obstruction has the stretch at every index
pub row_in :
    (by : Obstruction) (l : Lengths) (i j : ℕ) → ObstructionIn by → l ≡ obstruction_lengths by → i < drift_count (obstruction_lengths by)
    → j ≡ drift_index l i → RowIn l j
row_in by l i j f e lt ej =
    let y = lengths_in by f in
    rw (ej, e) (record {
      short = omega (arith, y.end, obstruction_end_most by f);
      down = y.down;
      present = present (obstruction_lengths by) i y.up lt;
    })

-- the index is never past the row
pub few_in : (l : Lengths) (i : ℕ) → i < drift_count l → i < 4
few_in l i lt = omega (arith, few_stretches l)
