-- The loads that `ground_load` answers: the smallest whole number not below the row's expression, and no less at a higher altitude.
use Prim.Native.Nat.{ℕ, ◌≤◌}
use mathlib.Core.Bool.{Bool, true, false, cond}
use mathlib.Core.Path.{◌≡◌, refl, subst}
use borrow.Author.Tests.{eqb-true}
use lib.Dec.{eqb}
use native.Mathlib.Omega.{arith}
use Rattle.ground_loads.specs.Map.{row_of, expression, ground_load}
use Rattle.ground_loads.proofs.Rows.{load_smallest, load_rises}
use Rattle.rounding.specs.Up.{Smallest}
use Rattle.map_sites.specs.Sites.{map_refusal, ground_answer}
use Rattle.std.specs.Prelude.{Ok, Err}
use Rattle.map_sites.proofs.Kept.{map_kept}

told_by : (b : Bool) (number load n : ℕ) → cond b (Ok load) (Err number) ≡ Ok n → (b ≡ true) × (load ≡ n)
told_by true number load n e = (refl, cc)
told_by false number load n e = let z : ◌≡◌ {A = ℕ} 0 1 = cc in absurd (omega arith)

-- a load is answered where no rule is broken, and it is the load of the place
told :
    (region zone altitude n : ℕ) → ground_answer region zone altitude ≡ Ok n
    → (map_refusal region zone altitude ≡ 0) × (ground_load region zone altitude ≡ n)
unfolding ground_answer
told region zone altitude n e =
    let t = told_by (eqb (map_refusal region zone altitude) 0) (map_refusal region zone altitude) (ground_load region zone altitude) n e in
    (eqb-true (map_refusal region zone altitude) 0 t.0, t.1)

module _ (region zone : ℕ) where
  pub answered_smallest : (altitude n : ℕ) → ground_answer region zone altitude ≡ Ok n → Smallest (expression (row_of region) zone altitude) n
  answered_smallest altitude n e =
      let t = told region zone altitude n e in
      subst (Smallest (expression (row_of region) zone altitude)) t.1
      (load_smallest region zone (map_kept region zone altitude t.0).0.region altitude)

  pub answered_rises : (a b m n : ℕ) → ground_answer region zone a ≡ Ok m → ground_answer region zone b ≡ Ok n → a ≤ b → m ≤ n
  answered_rises a b m n e f h =
      let t = told region zone a m e in
      let u = told region zone b n f in
      omega (arith, load_rises region zone a b (map_kept region zone a t.0).0.region h, t.1, u.1)
