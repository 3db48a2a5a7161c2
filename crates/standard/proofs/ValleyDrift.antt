-- Kinds 4 and 9: the stretches of a valley's drift are bare roof, its two slopes and bare roof, and rise with sk; any other code has
-- kind 4's. No law asks that the code exists.
use Prim.Native.Nat.{ℕ, zero, suc, ◌+◌, ◌*◌, ◌≤◌, ◌<◌, ◌-◌}
use mathlib.Core.Path.{◌≡◌, refl}
use mathlib.Core.Bool.{Bool, true, false, cond, not, ◌||◌}
use mathlib.Core.Logic.{⊎_elim}
use borrow.Author.Tests.{not-false}
use lib.Dec.{eqb}
use native.Mathlib.Nat.{eq-or-lt_of_le}
use native.Mathlib.Omega.{arith}
use Rattle.figures.specs.declared.slopes.Spans.{Spans}
use Rattle.figures.specs.Bounds.{MultiSpanIn}
use Rattle.figures.specs.Ranges.{within}
use Rattle.figures.proofs.Laws.{within_in}
use Rattle.standard.specs.Codes.{names_drift, drift_named}
use Rattle.standard.specs.Drift.{drift_row}
use Rattle.standard.specs.MultiSpan.{multi_span, widths}
use Rattle.standard.specs.Stretch.{start_of}
use Rattle.standard.specs.ValleyDrift.{left_length, right_length, valley_lengths, valley_peak, valley_drift, spans_stretch, spans_count, spans_ramped}
use Rattle.standard.proofs.Drift.{row_formed, row_rises, row_level, peak_positive, peak_up}
use Rattle.standard.proofs.MultiSpan.{multi_span_formed, multi_span_rises, multi_span_level}
use Rattle.standard.proofs.Runs.{Level, Rises, WellFormed, ramp_beside}

-- the valley named lies between two spans of the roof
pub named_in : (count code : ℕ) → names_drift (count - 1) code ≡ true → suc (drift_named code) < count
named_in count code h = omega (arith, within_in 31 (30 + (count - 1)) code h)

module _ (spans : Spans) where
  pub widths_up : (m n : ℕ) → m ≤ n → widths spans m ≤ widths spans n
  unfolding widths
  widths_up m zero h = let e : m ≡ 0 = omega arith in rw e (omega arith)
  widths_up m (suc n) h =
      ⊎_elim (λ same. rw same (omega arith)) (λ below. omega (arith, widths_up m n (omega arith))) (eq-or-lt_of_le h)

  -- The valley's two slopes lie between its two ridges.
  ridges : (v : ℕ) → widths spans (2 * v + 3) ≡ widths spans (2 * v + 1) + left_length spans v + right_length spans v
  unfolding widths
  ridges v =
      let e : 2 * v + 3 ≡ suc (suc (2 * v + 1)) = omega arith in
      let f : suc (2 * v + 1) ≡ 2 * v + 2 = omega arith in
      rw (e, f)

  module _ (count v : ℕ) (hv : suc v < count) (f : MultiSpanIn count spans) where
    -- There is a slope before the ridge on the left, and one behind the ridge on the right.
    pub first_slope : 0 < widths spans (2 * v + 1)
    unfolding widths
    first_slope = omega (arith, widths_up 1 (2 * v + 1) (omega arith), (f.spans 0 (omega arith)).width.low)

    pub last_slope : widths spans (2 * v + 3) < widths spans (2 * count)
    unfolding widths
    last_slope =
        let e : 2 * v + 4 ≡ suc (2 * v + 3) = omega arith in
        let up : widths spans (suc (2 * v + 3)) ≤ widths spans (2 * count) = rw e at (widths_up (2 * v + 4) (2 * count) (omega arith)) in
        omega (arith, up, (f.spans (2 * v + 3) (omega arith)).width.low)

    drift_length_lem : 0 < left_length spans v + right_length spans v
    drift_length_lem = omega (arith, (f.spans (2 * v + 1) (omega arith)).width.low)

    valley_formed : (sk : ℕ) → WellFormed (valley_drift sk spans count v) 4 (4 * widths spans (2 * count))
    unfolding valley_drift valley_peak
    valley_formed sk =
        let top = peak_positive _ _ _ _ drift_length_lem sk in
        row_formed (valley_lengths spans count v) _ _ top top (f.spans (2 * v + 2) (omega arith)).width.low _ (omega (arith, last_slope, ridges v))
        first_slope (f.spans (2 * v + 1) (omega arith)).width.low (omega (arith, last_slope))

    valley_rises : (s t i : ℕ) → s ≤ t → Rises (valley_drift s spans count v i) (valley_drift t spans count v i)
    unfolding valley_drift valley_peak
    valley_rises s t i p =
        let up = peak_up _ _ _ _ drift_length_lem s t p in
        row_rises (valley_lengths spans count v) _ _ _ _ up up i

  module _ (factor count code : ℕ) where
    pub spans_formed :
        (sk : ℕ) → MultiSpanIn count spans → WellFormed (spans_stretch factor sk spans count code) (spans_count count code) (4 * widths spans (2 * count))
    unfolding spans_stretch spans_count
    spans_formed sk f = go (names_drift (count - 1) code) refl
      where
        go :
            (b : Bool) → names_drift (count - 1) code ≡ b
            → WellFormed (λ i. cond b (valley_drift sk spans count (drift_named code) i) (multi_span factor sk spans count (eqb code 1) i)) (cond b 4 (2 * count))
            (4 * widths spans (2 * count))
        go true e = valley_formed count (drift_named code) (named_in count code e) f sk
        go false e = multi_span_formed spans factor count (eqb code 1) sk f

    pub spans_rises :
        (s t i : ℕ) → s ≤ t → MultiSpanIn count spans → Rises (spans_stretch factor s spans count code i) (spans_stretch factor t spans count code i)
    unfolding spans_stretch
    spans_rises s t i p f = go (names_drift (count - 1) code) refl
      where
        go :
            (b : Bool) → names_drift (count - 1) code ≡ b
            → Rises (cond b (valley_drift s spans count (drift_named code) i) (multi_span factor s spans count (eqb code 1) i))
            (cond b (valley_drift t spans count (drift_named code) i) (multi_span factor t spans count (eqb code 1) i))
        go true e = valley_rises count (drift_named code) (named_in count code e) f s t i p
        go false e = multi_span_rises spans factor count (eqb code 1) s t i p

    pub spans_level : (sk i : ℕ) → spans_ramped count code i ≡ false → Level (spans_stretch factor sk spans count code i)
    unfolding spans_stretch spans_ramped valley_drift
    spans_level sk i e = go (names_drift (count - 1) code) e
      where
        go :
            (b : Bool) → cond b (within 1 2 i) (not (eqb code 1 || eqb i 0 || eqb (i + 1) (2 * count))) ≡ false
            → Level (cond b (valley_drift sk spans count (drift_named code) i) (multi_span factor sk spans count (eqb code 1) i))
        go true h = row_level (valley_lengths spans count (drift_named code)) _ _ i h
        go false h = multi_span_level spans factor count (eqb code 1) sk i (not-false _ h)

    module _ (n : names_drift (count - 1) code ≡ true) (sk : ℕ) where
      -- "Ce and Ct play no part"
      pub drift_alike : (other i : ℕ) → spans_stretch factor sk spans count code i ≡ spans_stretch other sk spans count code i
      unfolding spans_stretch
      drift_alike other i = rw n

      -- "For valley j, counted from 1 at the left, code 30 + j": the peak stands behind the first j spans
      pub valley_lies : (j : ℕ) → code ≡ 30 + j → start_of (spans_stretch factor sk spans count code) 2 ≡ 4 * widths spans (2 * j)
      unfolding start_of spans_stretch valley_drift drift_row widths
      valley_lies j e =
          let a : 2 * j ≡ suc (2 * drift_named code + 1) = omega (arith, within_in 31 (30 + (count - 1)) code n) in
          rw (n, a) (omega arith)

-- Of two neighbours in a valley's drift one is a ramp.
pub valley_apart :
    (count code i : ℕ) → names_drift (count - 1) code ≡ true → suc i < spans_count count code
    → spans_ramped count code i ≡ false → spans_ramped count code (suc i) ≡ false → ⊥
unfolding spans_count spans_ramped
valley_apart count code i n c e e' = ramp_beside true 2 i (omega arith) (rw n at c) (rw n at e) (rw n at e')
