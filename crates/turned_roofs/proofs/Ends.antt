-- Kinds 3, 7 and 12 from their other end, and the row of a drift of Annex B.
use Prim.Native.Nat.{ℕ, zero, suc, ◌+◌, ◌<◌}
use mathlib.Core.Path.{◌≡◌, refl}
use mathlib.Core.Bool.{Bool, true, false, cond}
use borrow.Author.Tests.{lt-ltb}
use lib.Dec.{eqb, ltb}
use native.Mathlib.Omega.{arith}
use Rattle.figures.specs.Bounds.{SmallProjectionIn}
use Rattle.figures.specs.declared.slopes.Slope.{Slope}
use Rattle.figures.specs.declared.roof.Obstruction.TheVariants.{SmallProjection}
use Rattle.rounding.specs.Fraction.{Fraction}
use Rattle.rounding.specs.Load.{Load}
use Rattle.standard.specs.Drift.{drift_row, drift_index, drift, drift_count}
use Rattle.standard.specs.Obstruction.{obstruction_lengths, side_length, left_peak, right_peak, obstructed}
use Rattle.standard.specs.Pitched.{pitched}
use Rattle.standard.specs.Projection.{projection_length, projection_row, projection, projection_count}
use Rattle.standard.specs.Stretch.{even, ramp}
use Rattle.standard.specs.declared.Lengths.{Lengths}
use Rattle.turned_roofs.specs.Mirror.{Mirror, MirrorRun}

-- a whole ramp from its two ends, and a stretch of one load
pub ramp_mirror : (extent extent' : ℕ) (l m l' m' : Load) → extent ≡ extent' → l ≡ m' → m ≡ l' → Mirror (ramp extent l m) (ramp extent' l' m')
ramp_mirror extent extent' l m l' m' e p q = record { extent = e; full = e; skips = omega arith; from = p; to = q }

even_mirror : (extent extent' : ℕ) (l : Load) → extent ≡ extent' → Mirror (even extent l) (even extent' l)
even_mirror extent extent' l e = ramp_mirror extent extent' l l l l e refl refl

-- the first slope is the last, and the code that halves the left one halves the right one
pub pitched_mirror :
    (factor sk : ℕ) (left right : Slope) (left_guard right_guard code code' : ℕ) → eqb code 2 ≡ eqb code' 3 → eqb code 3 ≡ eqb code' 2
    → MirrorRun (pitched factor sk left right left_guard right_guard code) (pitched factor sk right left right_guard left_guard code') 2
unfolding pitched
pitched_mirror factor sk left right left_guard right_guard code code' e e' = record { each = go }
  where
    go :
        (i j : ℕ) → suc (i + j) ≡ 2
        → Mirror (pitched factor sk left right left_guard right_guard code i) (pitched factor sk right left right_guard left_guard code' j)
    go zero (suc j) h = rw e (even_mirror _ _ _ refl)
    go (suc i) zero h = rw e' (even_mirror _ _ _ refl)
    go zero zero h = absurd (omega arith)
    go (suc i) (suc j) h = absurd (omega arith)

-- Of a row of four the first and the last stretch may be missing. From either end, the places in the full row add up to 3.
places : (a b : Bool) (i j : ℕ) → suc (i + j) ≡ cond a 1 0 + (2 + cond b 1 0) → cond a i (suc i) + cond b j (suc j) ≡ 3
places true true i j e = omega arith
places true false i j e = omega arith
places false true i j e = omega arith
places false false i j e = omega arith

projection_row_mirror :
    (ls : ℕ) (peak rest : Load) (left right i j : ℕ) → i + j ≡ 3
    → Mirror (projection_row ls peak rest left right i) (projection_row ls peak rest right left j)
unfolding projection_row
projection_row_mirror ls peak rest left right zero j h = let e : j ≡ 3 = omega arith in rw e (even_mirror _ _ rest refl)
projection_row_mirror ls peak rest left right (suc zero) j h =
    let e : j ≡ 2 = omega arith in
    rw e (record { extent = refl; full = refl; skips = omega arith; from = refl; to = refl })
projection_row_mirror ls peak rest left right (suc (suc zero)) j h =
    let e : j ≡ 1 = omega arith in
    rw e (record { extent = refl; full = refl; skips = omega arith; from = refl; to = refl })
projection_row_mirror ls peak rest left right (suc (suc (suc i))) j h = let e : j ≡ 0 = omega arith in rw e (even_mirror _ _ rest refl)

module _ (h left right : ℕ) where
  pub projection_mirror : (factor sk : ℕ) → MirrorRun (projection factor sk h left right) (projection factor sk h right left) (projection_count h left right)
  unfolding projection projection_count
  projection_mirror factor sk =
      record {
        each = λ i j e.
            projection_row_mirror _ _ _ left right _ _ (places (ltb (projection_length h) left) (ltb (projection_length h) right) i j e);
      }

  pub projection_count_mirrored : projection_count h left right ≡ projection_count h right left
  unfolding projection_count
  projection_count_mirrored = omega arith

-- the lengths of a drift, from its two ends
pub record Reversed (l m : Lengths) : Type 0 where
  pub before : l.before ≡ m.after
  pub up : l.up ≡ m.down
  pub down : l.down ≡ m.up
  pub after : l.after ≡ m.before

pub drift_row_mirror :
    (l m : Lengths) (e f : Fraction) → Reversed l m → (i j : ℕ) → i + j ≡ 3 → Mirror (drift_row l e f i) (drift_row m f e j)
unfolding drift_row
drift_row_mirror l m e f r zero j h = let k : j ≡ 3 = omega arith in rw k (even_mirror _ _ _ (rw r.before))
drift_row_mirror l m e f r (suc zero) j h = let k : j ≡ 2 = omega arith in rw k (ramp_mirror _ _ _ _ _ _ (rw r.up) refl refl)
drift_row_mirror l m e f r (suc (suc zero)) j h = let k : j ≡ 1 = omega arith in rw k (ramp_mirror _ _ _ _ _ _ (rw r.down) refl refl)
drift_row_mirror l m e f r (suc (suc (suc i))) j h = let k : j ≡ 0 = omega arith in rw k (even_mirror _ _ _ (rw r.after))

-- a drift with a ramp on either side of its peak
module _ (l m : Lengths) (r : Reversed l m) (hu : 0 < l.up) (hd : 0 < l.down) where
  there : ltb 0 l.up ≡ true
  there = lt-ltb 0 l.up hu

  back : ltb 0 m.up ≡ true
  back = lt-ltb 0 m.up (rw (← r.down) hd)

  drift_mirror : (e f : Fraction) → MirrorRun (drift l e f) (drift m f e) (drift_count l)
  unfolding drift drift_index drift_count
  drift_mirror e f =
      record {
        each = λ i j h.
            rw (there, back) (drift_row_mirror l m e f r _ _ (places (ltb 0 l.before) (ltb 0 m.before) i j (omega (arith, rw (there, r.after) at h))));
      }

  drift_count_mirrored : drift_count l ≡ drift_count m
  unfolding drift_count
  drift_count_mirrored = rw (there, back, r.before, r.after) (omega arith)

module _ (h1 h2 b1 b2 : ℕ) (f : SmallProjectionIn h1 h2 b1 b2) where
  ends : Reversed (obstruction_lengths (SmallProjection h1 h2 b1 b2)) (obstruction_lengths (SmallProjection h2 h1 b2 b1))
  unfolding obstruction_lengths
  ends = record { before = refl; up = refl; down = refl; after = refl }

  left_ramp : 0 < (obstruction_lengths (SmallProjection h1 h2 b1 b2)).up
  unfolding obstruction_lengths side_length
  left_ramp = omega (arith, f.left_height.low, f.left.low)

  right_ramp : 0 < (obstruction_lengths (SmallProjection h1 h2 b1 b2)).down
  unfolding obstruction_lengths side_length
  right_ramp = omega (arith, f.right_height.low, f.right.low)

  pub small_projection_mirror :
      (sk : ℕ)
      → MirrorRun (obstructed sk (SmallProjection h1 h2 b1 b2)) (obstructed sk (SmallProjection h2 h1 b2 b1))
      (drift_count (obstruction_lengths (SmallProjection h1 h2 b1 b2)))
  unfolding obstructed left_peak right_peak
  small_projection_mirror sk = drift_mirror _ _ ends left_ramp right_ramp _ _

  pub small_projection_count : drift_count (obstruction_lengths (SmallProjection h1 h2 b1 b2)) ≡ drift_count (obstruction_lengths (SmallProjection h2 h1 b2 b1))
  small_projection_count = drift_count_mirrored _ _ ends left_ramp right_ramp
