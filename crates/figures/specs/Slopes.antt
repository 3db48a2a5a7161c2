-- The slopes of a roof of kind 2 or 3 by their numbers, each with its guard.
use Rattle.std.specs.Prelude.{ℕ, cond, Option, Some, None, ◌≡◌, eqb}
use Rattle.figures.specs.Bounds.{GuardedIn}
use Rattle.figures.specs.RoofRules.{shape_refusal}
use Rattle.figures.specs.declared.slopes.GuardedSlope.{GuardedSlope}
use Rattle.figures.specs.declared.slopes.Spans.{Spans}
use Rattle.figures.specs.declared.roof.Shape.{Shape}
use Rattle.figures.specs.declared.roof.Shape.TheVariants.{Monopitch, Pitched, MultiSpan, Cylindrical, Abutting, Projection, Obstructed}

-- the slope of a roof by its number: 1 left or only, 2 right; kinds 2 and 3 alone have slopes here
unfoldable pub slope_at : Shape → ℕ → Option GuardedSlope
slope_at (Monopitch slope) n = cond (eqb n 1) (Some slope) None
slope_at (Pitched left right) n = cond (eqb n 1) (Some left) (cond (eqb n 2) (Some right) None)
slope_at (MultiSpan count drifts) n = None
slope_at (Cylindrical arch) n = None
slope_at (Abutting lower) n = None
slope_at (Projection p) n = None
slope_at (Obstructed by) n = None

-- a shape that no rule refuses, with some spans beside it
pub record AcceptedShape (shape : Shape) : Type 0 where
  pub spans : Spans
  pub accepted : shape_refusal shape spans ≡ 0

-- the slopes of a shape of kind 2 or 3 keep their bounds
pub record SlopesIn (shape : Shape) : Type 0 where
  pub side : (n : ℕ) (slope : GuardedSlope) → slope_at shape n ≡ Some slope → GuardedIn slope
