-- What the shape of accepted figures is known to be keeps its bounds, and an index below its count.
use Prim.Native.Nat.{ℕ, ◌<◌}
use mathlib.Core.Path.{◌≡◌, subst}
use Rattle.figures.specs.Bounds.{ShapeIn}
use Rattle.figures.specs.declared.accepted_figures.AcceptedFigures.{AcceptedFigures}
use Rattle.figures.specs.declared.roof.Shape.{Shape}
use Rattle.figures.proofs.Accepted.{shape_in}
use Rattle.standard.specs.Arrangements.{count_in}

module _ (f : AcceptedFigures) {known : Shape} (e : f.roof.shape ≡ known) where
  pub known_in : ShapeIn known f.roof.spans
  known_in = subst (λ (s : Shape). ShapeIn s f.roof.spans) e (shape_in _ _ f.accepted.roof)

  pub known_index : (code i : ℕ) → i < count_in f.national f.roof.shape code → i < count_in f.national known code
  known_index code i lt = subst (λ (s : Shape). i < count_in f.national s code) e lt
