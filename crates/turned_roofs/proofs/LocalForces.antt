-- The forces at an eave and at a guard are those of the slope, from whichever end it is numbered.
use Prim.Native.Nat.{ℕ}
use mathlib.Core.Path.{◌≡◌, refl}
use mathlib.Core.Bool.{Bool, true, false, cond}
use lib.Dec.{eqb}
use Rattle.std.specs.Prelude.{Some, None}
use mathlib.Core.List.{List}
use native.Mathlib.Omega.{arith}
use Rattle.figures.specs.RoofRules.{kind_of}
use Rattle.figures.specs.Slopes.{slope_at}
use Rattle.figures.specs.declared.site.Site.{Site}
use Rattle.figures.specs.declared.slopes.Spans.{Spans}
use Rattle.figures.specs.declared.roof.Shape.{Shape}
use Rattle.figures.specs.declared.slopes.GuardedSlope.{GuardedSlope}
use Rattle.figures.specs.declared.roof.Shape.TheVariants.{Pitched, MultiSpan}
use Rattle.figures.specs.declared.roof.Roof.{Roof}
use Rattle.figures.proofs.Tests.{clash}
use Rattle.standard.specs.Forces.{larger_whole, overhang_at, overhang_answer, guard_answer}
use Rattle.turned_roofs.specs.OtherEnd.{ForcesAlike}
use Rattle.turned_roofs.specs.Turned.{mirrored, turned, slope_exchanged}
use Rattle.turned_roofs.proofs.Answered.{same_rules}
use Rattle.turned_roofs.proofs.Roofs.{turned_is, turned_refusal}
use Rattle.turned_roofs.proofs.Shapes.{every_shape}

slopes_exchanged :
    (shape : Shape) → kind_of shape ≡ 3 → (spans : Spans) (n : ℕ) → slope_at (mirrored shape spans).shape (slope_exchanged n) ≡ slope_at shape n
unfolding mirrored slope_at slope_exchanged
slopes_exchanged =
    every_shape (λ shape. kind_of shape ≡ 3 → (spans : Spans) (n : ℕ) → slope_at (mirrored shape spans).shape (slope_exchanged n) ≡ slope_at shape n)
    (λ left right k spans n. pitched_slopes left right n (eqb n 1) (eqb n 2) refl refl)
    (λ n drifts k. not_three drifts k) (λ p k. absurd (omega (arith, k))) (λ h1 h2 b1 b2 k. absurd (omega (arith, k)))
    (λ shape same off k. clash (rw k) off)
  where
    not_three : (drifts : Bool) {A : Type 0} → kind_of (MultiSpan 0 drifts) ≡ 3 → A
    not_three true k = absurd (omega (arith, k))
    not_three false k = absurd (omega (arith, k))

    pitched_slopes :
        (left right : GuardedSlope) (n : ℕ) (a b : Bool) → eqb n 1 ≡ a → eqb n 2 ≡ b
        → slope_at (Pitched right left) (cond a 2 (cond b 1 n)) ≡ cond a (Some left) (cond b (Some right) None)
    pitched_slopes left right n true b p q = refl
    pitched_slopes left right n false true p q = refl
    pitched_slopes left right n false false p q = rw (p, q)

module _ (store : List ℕ) (site : Site) (roof : Roof) (k : kind_of roof.shape ≡ 3) where
  exchanged_here : (n : ℕ) → slope_at (turned roof).shape (slope_exchanged n) ≡ slope_at roof.shape n
  exchanged_here n = rw (turned_is roof (rw k)) (slopes_exchanged roof.shape k roof.spans n)

  same_larger : larger_whole site (turned roof).shape ≡ larger_whole site roof.shape
  unfolding larger_whole slope_exchanged
  same_larger =
      let left : slope_at (turned roof).shape 2 ≡ slope_at roof.shape 1 = exchanged_here 1 in
      let right : slope_at (turned roof).shape 1 ≡ slope_at roof.shape 2 = exchanged_here 2 in
      rw (left, right) (omega arith)

  pub forces_alike : ForcesAlike store site roof
  unfolding overhang_answer overhang_at guard_answer
  forces_alike =
      let r = same_rules store site roof (turned roof) (turned_refusal roof) in
      record {
        eave = λ n. rw (r, same_larger, exchanged_here n);
        guard = λ n. rw (r, exchanged_here n);
      }
