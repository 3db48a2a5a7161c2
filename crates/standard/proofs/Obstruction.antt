-- Kinds 11 and 12: their stretches are a drift behind a parapet, or on each side of a small projection, and what is left of the roof, and
-- rise with sk.
use Prim.Native.Nat.{ℕ, ◌*◌, ◌≤◌, ◌<◌, min}
use mathlib.Core.Path.{◌≡◌, refl, sym, ◌∙◌}
use native.Mathlib.Nat.{mul-le-mul_left}
use native.Mathlib.Omega.{arith}
use Rattle.figures.specs.Bounds.{ObstructionIn}
use Rattle.figures.specs.declared.roof.Obstruction.{Obstruction}
use Rattle.figures.specs.declared.roof.Obstruction.TheVariants.{Parapet, SmallProjection}
use Rattle.rounding.specs.Fraction.{over, Below, Same}
use Rattle.rounding.specs.Up.{rounded_up}
use Rattle.rounding.proofs.Limited.{below_refl, smaller_positive, smaller_mono, smaller_over}
use Rattle.rounding.proofs.Rounding.{whole, up_same}
use Rattle.standard.specs.Drift.{together, drift_count}
use Rattle.standard.specs.Obstruction.{parapet_length, parapet_peak, side_length, side_peak, obstruction_lengths, left_peak, right_peak, obstructed, obstruction_end}
use Rattle.standard.proofs.Drift.{drift_formed, drift_rises, peak_positive, peak_up, over_up}
use Rattle.standard.proofs.Runs.{Rises, WellFormed}

-- what the length of a drift keeps: it lies on the roof
pub record LengthIn (width ls : ℕ) : Type 0 where
  pub some : 1 ≤ ls
  pub inside : ls ≤ width

module _ (h width : ℕ) (hh : 1 ≤ h) (hw : 1 ≤ width) where
  pub parapet_length_in : LengthIn width (parapet_length h width)
  unfolding parapet_length
  parapet_length_in = record { some = omega arith; inside = omega arith }

  pub side_length_in : LengthIn width (side_length h width)
  unfolding side_length
  side_length_in = record { some = omega arith; inside = omega arith }

module _ (h : ℕ) where
  side_positive : (sk : ℕ) → 0 < (side_peak h sk).den
  unfolding side_peak
  side_positive sk = smaller_positive (over (2 * h) 1) (over (5 * sk) 1) (omega arith) (omega arith)

  side_up : (s t : ℕ) → s ≤ t → Below (side_peak h s) (side_peak h t)
  unfolding side_peak
  side_up s t p = smaller_mono _ _ _ _ (below_refl (over (2 * h) 1)) (over_up _ _ 1 (mul-le-mul_left 5 p)) (omega arith) (omega arith)

  -- a whole number of N/m², so of any parts, as code calculates it
  pub side_rounded : (g sk : ℕ) → g * min (2 * h) (5 * sk) ≡ rounded_up g (side_peak h sk)
  unfolding side_peak rounded_up Same
  side_rounded g sk =
      let n = min (2 * h) (5 * sk) in
      let e = smaller_over (over (2 * h) 1) (over (5 * sk) 1) (2 * h) (5 * sk) 1 (omega arith) (omega arith) refl refl in
      sym (up_same g (side_peak h sk) (over n 1) (side_positive sk) (omega arith) e ∙ whole (g * n) 1 (g * n) (omega arith) (omega arith))

-- the four lengths come to the roof's end; the ramp down always has one, and where the roof is bare on the left there is a ramp up
pub record LengthsIn (by : Obstruction) : Type 0 where
  pub end : together (obstruction_lengths by) ≡ obstruction_end by
  pub down : 0 < (obstruction_lengths by).down
  pub up : 0 < (obstruction_lengths by).before → 0 < (obstruction_lengths by).up

pub lengths_in : (by : Obstruction) → ObstructionIn by → LengthsIn by
unfolding obstruction_lengths obstruction_end
lengths_in (Parapet h b1 b2) f =
    let l = parapet_length_in h b1 f.height.low f.behind.low in
    record { end = omega (arith, l.inside); down = l.some; up = λ z. absurd (omega arith) }
lengths_in (SmallProjection h1 h2 b1 b2) f =
    let l = side_length_in h1 b1 f.left_height.low f.left.low in
    let r = side_length_in h2 b2 f.right_height.low f.right.low in
    record { end = omega (arith, l.inside, r.inside); down = r.some; up = λ z. l.some }

-- the denominators of the peaks
record Peaks (by : Obstruction) (sk : ℕ) : Type 0 where
  left : 0 < (left_peak by sk).den
  right : 0 < (right_peak by sk).den

peaks : (by : Obstruction) (sk : ℕ) → ObstructionIn by → Peaks by sk
unfolding left_peak right_peak parapet_peak
peaks (Parapet h b1 b2) sk f =
    let l = parapet_length_in h b1 f.height.low f.behind.low in
    record { left = omega arith; right = peak_positive _ h _ _ l.some sk }
peaks (SmallProjection h1 h2 b1 b2) sk f = record { left = side_positive h1 sk; right = side_positive h2 sk }

-- the peaks under less and under more snow
record PeaksUp (by : Obstruction) (s t : ℕ) : Type 0 where
  left : Below (left_peak by s) (left_peak by t)
  right : Below (right_peak by s) (right_peak by t)

peaks_up : (by : Obstruction) (s t : ℕ) → s ≤ t → ObstructionIn by → PeaksUp by s t
unfolding left_peak right_peak parapet_peak
peaks_up (Parapet h b1 b2) s t p f =
    let l = parapet_length_in h b1 f.height.low f.behind.low in
    record { left = below_refl (over 0 1); right = peak_up _ h _ _ l.some s t p }
peaks_up (SmallProjection h1 h2 b1 b2) s t p f = record { left = side_up h1 s t p; right = side_up h2 s t p }

pub obstruction_end_most : (by : Obstruction) → ObstructionIn by → obstruction_end by ≤ 200000
unfolding obstruction_end
obstruction_end_most (Parapet h b1 b2) f = omega (arith, f.behind.high)
obstruction_end_most (SmallProjection h1 h2 b1 b2) f = omega (arith, f.left.high, f.right.high)

module _ (by : Obstruction) (f : ObstructionIn by) where
  pub obstructed_formed : (sk : ℕ) → WellFormed (obstructed sk by) (drift_count (obstruction_lengths by)) (4 * obstruction_end by)
  unfolding obstructed
  obstructed_formed sk =
      let l = lengths_in by f in
      let p = peaks by sk f in
      drift_formed (obstruction_lengths by) _ _ p.left p.right l.down (obstruction_end by) l.end l.up

  pub obstructed_rises : (s t i : ℕ) → s ≤ t → Rises (obstructed s by i) (obstructed t by i)
  unfolding obstructed
  obstructed_rises s t i p =
      let u = peaks_up by s t p f in
      drift_rises (obstruction_lengths by) _ _ _ _ u.left u.right i
