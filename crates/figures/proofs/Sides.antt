-- The slopes of an accepted roof of kind 2 or 3 keep their bounds.
use Prim.Native.Nat.{ℕ}
use mathlib.Core.Path.{◌≡◌, refl, subst}
use mathlib.Core.Bool.{Bool, true, false, cond}
use Rattle.std.specs.Prelude.{Option, Some, None, is_some}
use lib.Dec.{eqb}
use native.Mathlib.Omega.{arith}
use Rattle.figures.specs.Bounds.{GuardedIn, ShapeIn}
use Rattle.figures.specs.Ranges.{within}
use Rattle.figures.specs.RoofRules.{kind_of, shape_refusal, roof_refusal}
use Rattle.figures.specs.Slopes.{slope_at, SlopesIn}
use Rattle.figures.specs.declared.slopes.GuardedSlope.{GuardedSlope}
use Rattle.figures.specs.declared.slopes.Spans.{Spans}
use Rattle.figures.specs.declared.roof.Obstruction.TheVariants.{Parapet, SmallProjection}
use Rattle.figures.specs.declared.roof.Shape.{Shape}
use Rattle.figures.specs.declared.roof.Shape.TheVariants.{Monopitch, Pitched, MultiSpan, Cylindrical, Abutting, Projection, Obstructed}
use Rattle.figures.specs.declared.roof.Roof.{Roof}
use Rattle.figures.proofs.Accepted.{shape_in}
use Rattle.figures.proofs.Tests.{clash}

-- what a slope of an accepted roof keeps, and that its kind is 2 or 3
sides : ℕ → Option GuardedSlope → Type 0
sides kind None = Unit
sides kind (Some slope) = GuardedIn slope × (within 2 3 kind ≡ true)

chosen : (kind : ℕ) (a b : Option GuardedSlope) (t : Bool) → sides kind a → sides kind b → sides kind (cond t a b)
chosen kind a b true p q = p
chosen kind a b false p q = q

shape_sides : (shape : Shape) (spans : Spans) (n : ℕ) → ShapeIn shape spans → sides (kind_of shape) (slope_at shape n)
unfolding slope_at sides
shape_sides (Monopitch slope) spans n f = chosen 2 _ _ (eqb n 1) (f, refl) tt
shape_sides (Pitched left right) spans n f =
    chosen 3 (Some left) (cond (eqb n 2) (Some right) None) (eqb n 1) (f.left, refl) (chosen 3 (Some right) None (eqb n 2) (f.right, refl) tt)
shape_sides (MultiSpan count drifts) spans n f = tt
shape_sides (Cylindrical arch) spans n f = tt
shape_sides (Abutting lower) spans n f = tt
shape_sides (Projection p) spans n f = tt
shape_sides (Obstructed by) spans n f = tt

-- another kind has no slope here
pub no_sides :
    (shape : Shape) (spans : Spans) (n : ℕ) → shape_refusal shape spans ≡ 0 → within 2 3 (kind_of shape) ≡ false → slope_at shape n ≡ None
unfolding sides
no_sides shape spans n h e = go (slope_at shape n) (shape_sides shape spans n (shape_in shape spans h))
  where
    go : (at : Option GuardedSlope) → sides (kind_of shape) at → at ≡ None
    go None s = refl
    go (Some slope) s = let z : ◌≡◌ {A = ℕ} 0 1 = cc s.1 in absurd (omega arith)

pub side_in :
    (roof : Roof) (n : ℕ) (slope : GuardedSlope) → roof_refusal roof ≡ 0 → slope_at roof.shape n ≡ Some slope → GuardedIn slope
unfolding sides
side_in roof n slope hr e =
    (subst (λ (s : Option GuardedSlope). sides (kind_of roof.shape) s) e (shape_sides roof.shape roof.spans n (shape_in roof.shape roof.spans hr))).0

pub slopes_in : (roof : Roof) → roof_refusal roof ≡ 0 → SlopesIn roof.shape
slopes_in roof h = record { side = λ n slope e. side_in roof n slope h e }

pub one_in : (shape : Shape) (n : ℕ) (slope : GuardedSlope) → SlopesIn shape → slope_at shape n ≡ Some slope → GuardedIn slope
one_in shape n slope k e = k.side n slope e

-- a kind other than 2 and 3 has no slopes here, accepted or not
pub no_slopes : (shape : Shape) (n : ℕ) → within 2 3 (kind_of shape) ≡ false → slope_at shape n ≡ None
unfolding slope_at
no_slopes (Monopitch slope) n e = clash refl e
no_slopes (Pitched left right) n e = clash refl e
no_slopes (MultiSpan count drifts) n e = refl
no_slopes (Cylindrical arch) n e = refl
no_slopes (Abutting lower) n e = refl
no_slopes (Projection p) n e = refl
no_slopes (Obstructed by) n e = refl

-- a slope keeps its bounds where there is one
abbrev pub SideKept : Option GuardedSlope → Type 0
SideKept None = Unit
SideKept (Some slope) = GuardedIn slope

pub side_kept : (shape : Shape) (spans : Spans) (n : ℕ) → ShapeIn shape spans → SideKept (slope_at shape n)
unfolding sides
side_kept shape spans n f = go (slope_at shape n) (shape_sides shape spans n f)
  where
    go : (at : Option GuardedSlope) → sides (kind_of shape) at → SideKept at
    go None s = tt
    go (Some slope) s = s.0

-- kinds 2 and 3 have slope 1
pub first_present : (shape : Shape) → within 2 3 (kind_of shape) ≡ true → is_some (slope_at shape 1) ≡ true
unfolding slope_at
first_present (Monopitch slope) e = refl
first_present (Pitched left right) e = refl
first_present (MultiSpan count true) e = e
first_present (MultiSpan count false) e = e
first_present (Cylindrical arch) e = e
first_present (Abutting lower) e = no_kind lower.stepped e
  where
    no_kind : (stepped : Bool) → within 2 3 (cond stepped 10 6) ≡ true → false ≡ true
    no_kind true h = h
    no_kind false h = h
first_present (Projection p) e = e
first_present (Obstructed (Parapet h b1 b2)) e = e
first_present (Obstructed (SmallProjection h1 h2 b1 b2)) e = e
