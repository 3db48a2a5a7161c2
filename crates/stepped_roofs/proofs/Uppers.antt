-- What an upper roof gives to a lower one, and that the lower roof is accepted then.
use Prim.Native.Nat.{ℕ, ◌+◌, ◌≤◌}
use mathlib.Core.Path.{◌≡◌, refl}
use mathlib.Core.Bool.{Bool, true, false, cond, ◌&&◌}
use borrow.Author.Tests.{le-leb}
use lib.Dec.{leb, eqb}
use native.Mathlib.Omega.{arith}
use Rattle.std.specs.Prelude.{Option, Some, None, is_some}
use Rattle.figures.specs.Bounds.{SlopeIn}
use Rattle.figures.specs.Ranges.{within}
use Rattle.figures.specs.RoofRules.{kind_of, slope_fields, lower_refusal, shape_refusal}
use Rattle.figures.specs.Slopes.{slope_at}
use Rattle.figures.specs.declared.roof.LowerRoof.{LowerRoof}
use Rattle.figures.specs.declared.slopes.Slope.{Slope}
use Rattle.figures.specs.declared.slopes.GuardedSlope.{GuardedSlope}
use Rattle.figures.specs.declared.slopes.Spans.{Spans}
use Rattle.figures.specs.declared.roof.Shape.{Shape}
use Rattle.figures.proofs.Accepted.{sound, shape_in}
use Rattle.figures.proofs.Laws.{both}
use Rattle.figures.proofs.Sides.{SideKept, side_kept, first_present}
use Rattle.stepped_roofs.specs.Stepped.{slope_width, whole_width, adjacent_slope, flat_roof, stepped_at, stepped_shape}

-- a slope is at most 100,000 wide, and at least 1 where there is one
width_most : (at : Option GuardedSlope) → SideKept at → slope_width at ≤ 100000
width_most None k = omega arith
width_most (Some slope) k = k.slope.width.high

width_some : (at : Option GuardedSlope) → SideKept at → is_some at ≡ true → 1 ≤ slope_width at
width_some None k e = let z : ◌≡◌ {A = ℕ} 0 1 = cc in absurd (omega arith)
width_some (Some slope) k e = k.slope.width.low

-- one of two slopes, the second where there is one
chosen : (b : Bool) (one two : Option GuardedSlope) → SideKept one → SideKept two → is_some one ≡ true
    → SideKept (cond (b && is_some two) two one) × (is_some (cond (b && is_some two) two one) ≡ true)
chosen true one None j k e = (j, e)
chosen true one (Some slope) j k e = (k, refl)
chosen false one two j k e = (j, e)

ranged : (low high x : ℕ) → low ≤ x → x ≤ high → within low high x ≡ true
ranged low high x p q = rw (le-leb low x p, le-leb x high q)

slope_sound : (slope : Slope) → SlopeIn slope → slope_fields slope ≡ true
slope_sound slope k =
    rw (le-leb slope.pitch 800 k.pitch, le-leb 1 slope.width k.width.low, le-leb slope.width 100000 k.width.high)

-- what the rule on its own item tells of a lower roof
pub record LowerSound (lower : LowerRoof) : Type 0 where
  pub width : within 1 100000 lower.b2 ≡ true
  pub step : within 1 30000 lower.h ≡ true

lower_sound : (lower : LowerRoof) → lower_refusal lower ≡ 0 → LowerSound lower
lower_sound lower e =
    let p = both (within 1 100000 lower.b2 && within 1 30000 lower.h) (leb lower.side 1) (sound _ 8 (omega arith) e) in
    let q = both (within 1 100000 lower.b2) (within 1 30000 lower.h) p.0 in
    record { width = q.0; step = q.1 }

stepped_at_lem : (lower : LowerRoof) (b1 : ℕ) (at : Option GuardedSlope) (spans : Spans) → LowerSound lower → 1 ≤ b1 → b1 ≤ 200000 → SideKept at
    → is_some at ≡ true → shape_refusal (stepped_at lower b1 at) spans ≡ 0
unfolding shape_refusal
stepped_at_lem lower b1 None spans l p q k e = let z : ◌≡◌ {A = ℕ} 0 1 = cc in absurd (omega arith)
stepped_at_lem lower b1 (Some slope) spans l p q k e =
    rw (ranged 1 200000 b1 p q, l.width, l.step, slope_sound slope.slope k.slope, le-leb slope.guard 1 k.guard)

-- a lower roof at an accepted upper roof of kind 2 or 3 is accepted: b1 is at most 200,000
pub stepped_accepted :
    (lower : LowerRoof) (upper : Shape) (l spans : Spans) → lower_refusal lower ≡ 0 → shape_refusal upper l ≡ 0 → within 2 3 (kind_of upper) ≡ true
    → shape_refusal (stepped_shape lower upper) spans ≡ 0
unfolding stepped_shape whole_width adjacent_slope
stepped_accepted lower upper l spans e f h =
    let one = slope_at upper 1 in
    let two = slope_at upper 2 in
    let k = shape_in upper l f in
    let j = side_kept upper l 1 k in
    let m = side_kept upper l 2 k in
    let p = first_present upper h in
    let c = chosen (eqb lower.side 1) one two j m p in
    stepped_at_lem lower (slope_width one + slope_width two) (cond (eqb lower.side 1 && is_some two) two one) spans (lower_sound lower e) (omega (arith, width_some one j p))
    (omega (arith, width_most one j, width_most two m)) c.0 c.1

-- a lower roof that is accepted by itself is an accepted flat roof above another
pub flat_accepted : (lower : LowerRoof) (spans : Spans) → lower_refusal lower ≡ 0 → shape_refusal (flat_roof lower.b2) spans ≡ 0
unfolding shape_refusal
flat_accepted lower spans e = rw (lower_sound lower e).width

-- the width of a slope of an accepted roof
pub width_in : (shape : Shape) (spans : Spans) (n : ℕ) → shape_refusal shape spans ≡ 0 → slope_width (slope_at shape n) ≤ 100000
width_in shape spans n e = width_most (slope_at shape n) (side_kept shape spans n (shape_in shape spans e))
