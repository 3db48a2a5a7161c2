-- Kinds 4 and 9 from their other end, and the drifts in their valleys.
use Prim.Native.Nat.{ℕ, zero, suc, ◌+◌, ◌-◌, ◌*◌, ◌%◌, ◌≤◌, ◌<◌}
use mathlib.Core.Path.{◌≡◌, refl, sym, ap}
use mathlib.Core.Bool.{Bool, true, false, cond, ◌||◌}
use borrow.Author.Tests.{eq-eqb, ne_eqb, eqb-true, eqb-false}
use lib.Dec.{eqb}
use lib.ListN.{length}
use native.Mathlib.Omega.{arith}
use Rattle.figures.specs.Spans.{flat, level, slope_of, valley_of}
use Rattle.figures.specs.declared.slopes.Slope.{Slope}
use Rattle.figures.specs.declared.slopes.Spans.{Spans}
use Rattle.rounding.specs.Load.{Load}
use Rattle.standard.specs.Codes.{names_drift, drift_named}
use Rattle.standard.specs.Coefficients.{mu2}
use Rattle.standard.specs.Drift.{peak}
use Rattle.standard.specs.MultiSpan.{own_load, valley_load, multi_span_from, multi_span_to, multi_span, widths}
use Rattle.standard.specs.Stretch.{load_alone}
use Rattle.standard.specs.ValleyDrift.{left_length, right_length, valley_lengths, valley_peak, valley_drift, spans_stretch, spans_count}
use Rattle.turned_roofs.specs.Mirror.{Mirror, MirrorRun}
use Rattle.turned_roofs.specs.Turned.{spans_reversed}
use Rattle.turned_roofs.proofs.Ends.{Reversed, ramp_mirror, drift_row_mirror}
use Rattle.turned_roofs.proofs.Rows.{row_at, row_behind}

-- slope i from the left of one roof is slope i from the right of the other
pub record SlopesReversed (spans spans' : Spans) (n : ℕ) : Type 0 where
  pub each : (i j : ℕ) → suc (i + j) ≡ 2 * n → slope_of spans i ≡ slope_of spans' j

-- and so are the valleys between
pub record ValleysReversed (spans spans' : Spans) (n : ℕ) : Type 0 where
  pub each : (i j : ℕ) → suc (i + j) ≡ n - 1 → valley_of spans i ≡ valley_of spans' j

pub slopes_reversed : (spans : Spans) (n : ℕ) → 2 * n ≤ length spans.slopes → SlopesReversed spans (spans_reversed spans n) n
unfolding slope_of spans_reversed
slopes_reversed spans n h = record { each = λ i j e. sym (row_at spans.slopes flat (2 * n) j i h (omega arith)) }

pub valleys_reversed : (spans : Spans) (n : ℕ) → n - 1 ≤ length spans.valleys → ValleysReversed spans (spans_reversed spans n) n
unfolding valley_of spans_reversed
valleys_reversed spans n h = record { each = λ i j e. sym (row_at spans.valleys level (n - 1) j i h (omega arith)) }

-- "spans in reverse order", and in each "left and right exchanged"; what stands behind the count stays
pub record ByItsSpans (spans : Spans) (n : ℕ) : Type 0 where
  pub left : (i j : ℕ) → suc (i + j) ≡ n → slope_of (spans_reversed spans n) (2 * i) ≡ slope_of spans (2 * j + 1)
  pub right : (i j : ℕ) → suc (i + j) ≡ n → slope_of (spans_reversed spans n) (2 * i + 1) ≡ slope_of spans (2 * j)
  pub behind : (i : ℕ) → 2 * n ≤ i → slope_of (spans_reversed spans n) i ≡ slope_of spans i

pub by_its_spans : (spans : Spans) (n : ℕ) → 2 * n ≤ length spans.slopes → ByItsSpans spans n
unfolding slope_of spans_reversed
by_its_spans spans n h =
    let t = slopes_reversed spans n h in
    record {
      left = λ i j e. sym (t.each (2 * j + 1) (2 * i) (omega arith));
      right = λ i j e. sym (t.each (2 * j) (2 * i + 1) (omega arith));
      behind = λ i b. row_behind spans.slopes flat (2 * n) i h b;
    }

slopes_back : (spans spans' : Spans) (n : ℕ) → SlopesReversed spans spans' n → SlopesReversed spans' spans n
slopes_back spans spans' n t = record { each = λ i j e. sym (t.each j i (omega arith)) }

-- two tests that ask the same
same_test : (a b c d : ℕ) → (a ≡ b → c ≡ d) → (c ≡ d → a ≡ b) → eqb a b ≡ eqb c d
same_test a b c d p q = go (eqb a b) refl
  where
    go : (t : Bool) → eqb a b ≡ t → t ≡ eqb c d
    go true e = sym (eq-eqb c d (p (eqb-true a b e)))
    go false e = sym (ne_eqb c d (λ z. eqb-false a b e (q z)))

same_choice : (u a c : Bool) (l m l' m' : Load) → l ≡ l' → (a ≡ false → m ≡ m') → cond (u || a || c) l m ≡ cond (u || a || c) l' m'
same_choice true a c l m l' m' p q = p
same_choice false true c l m l' m' p q = p
same_choice false false true l m l' m' p q = p
same_choice false false false l m l' m' p q = q refl

module _ (factor sk : ℕ) (undrifted : Bool) (n : ℕ) where
  module _ (spans spans' : Spans) (t : SlopesReversed spans spans' n) (i j : ℕ) (e : suc (i + j) ≡ 2 * n) where
    own_mirrored : own_load factor sk spans i ≡ own_load factor sk spans' j
    unfolding own_load
    own_mirrored = rw (t.each i j e)

    valley_mirrored : 0 < i → valley_load factor sk spans (i - 1) ≡ valley_load factor sk spans' j
    unfolding valley_load
    valley_mirrored h =
        let d : i - 1 + 1 ≡ i = omega arith in
        rw (d, t.each i j e, t.each (i - 1) (j + 1) (omega arith)) (ap (λ (z : ℕ). load_alone (mu2 z) factor sk) (omega arith))

    -- what stands at a slope's left end stands at its right end, seen from the right
    from_mirrored : multi_span_from factor sk spans undrifted i ≡ multi_span_to factor sk spans' n undrifted j
    unfolding multi_span_from multi_span_to
    from_mirrored =
        let a : eqb (j + 1) (2 * n) ≡ eqb i 0 = same_test (j + 1) (2 * n) i 0 (λ z. omega arith) (λ z. omega arith) in
        let b : eqb (j % 2) 0 ≡ eqb (i % 2) 1 = same_test (j % 2) 0 (i % 2) 1 (λ z. omega arith) (λ z. omega arith) in
        rw (a, b)
        (same_choice undrifted (eqb i 0) (eqb (i % 2) 1) _ _ _ _ own_mirrored
        (λ z. let k : i ≡ 0 → ⊥ = eqb-false i 0 z in valley_mirrored (omega arith)))

  multi_span_mirror :
      (spans spans' : Spans) → SlopesReversed spans spans' n
      → MirrorRun (multi_span factor sk spans n undrifted) (multi_span factor sk spans' n undrifted) (2 * n)
  unfolding multi_span
  multi_span_mirror spans spans' t =
      record {
        each = λ i j e.
            ramp_mirror _ _ _ _ _ _ (rw (t.each i j e)) (from_mirrored spans spans' t i j e)
            (sym (from_mirrored spans' spans (slopes_back spans spans' n t) j i (omega arith)));
      }

module _ (spans spans' : Spans) (n : ℕ) (t : SlopesReversed spans spans' n) where
  -- the first i slopes from the left and the first j from the right are all of them
  widths_mirrored : (j i : ℕ) → i + j ≡ 2 * n → widths spans i + widths spans' j ≡ widths spans (2 * n)
  unfolding widths
  widths_mirrored zero i h = let e : i ≡ 2 * n = omega arith in rw e (omega arith)
  widths_mirrored (suc j) i h =
      omega (arith, widths_mirrored j (suc i) (omega arith), ap (λ (s : Slope). s.width) (t.each i j (omega arith)))

  pub same_width : widths spans' (2 * n) ≡ widths spans (2 * n)
  unfolding widths
  same_width = omega (arith, widths_mirrored (2 * n) 0 (omega arith))

  -- valley v from the left is valley w from the right
  module _ (r : ValleysReversed spans spans' n) (sk v w : ℕ) (e : suc (v + w) ≡ n - 1) where
    left_is_right : left_length spans v ≡ right_length spans' w
    left_is_right = ap (λ (s : Slope). s.width) (t.each (2 * v + 1) (2 * w + 2) (omega arith))

    right_is_left : right_length spans v ≡ left_length spans' w
    right_is_left = ap (λ (s : Slope). s.width) (t.each (2 * v + 2) (2 * w + 1) (omega arith))

    lengths_reversed : Reversed (valley_lengths spans n v) (valley_lengths spans' n w)
    lengths_reversed =
        record {
          before = omega (arith, widths_mirrored (2 * w + 3) (2 * v + 1) (omega arith), same_width);
          up = left_is_right;
          down = right_is_left;
          after = omega (arith, widths_mirrored (2 * w + 1) (2 * v + 3) (omega arith));
        }

    peak_mirrored : valley_peak sk spans v ≡ valley_peak sk spans' w
    unfolding valley_peak
    peak_mirrored = rw (r.each v w e, left_is_right, right_is_left) (ap (λ (z : ℕ). peak 5 (valley_of spans' w).h (valley_of spans' w).b3 z sk) (omega arith))

    valley_drift_mirror : MirrorRun (valley_drift sk spans n v) (valley_drift sk spans' n w) 4
    unfolding valley_drift
    valley_drift_mirror = record { each = λ i j h. rw (← peak_mirrored) (drift_row_mirror _ _ _ _ lengths_reversed i j (omega arith)) }

-- An arrangement that names a valley, and the one that names it from the other end; or any other arrangement.
pub record SpanCodes (n code code' : ℕ) : Type 0 where
  pub named : names_drift (n - 1) code ≡ names_drift (n - 1) code'
  pub valley : names_drift (n - 1) code ≡ true → suc (drift_named code + drift_named code') ≡ n - 1
  pub other : names_drift (n - 1) code ≡ false → eqb code 1 ≡ eqb code' 1

module _ (n code code' : ℕ) (c : SpanCodes n code code') where
  pub spans_mirror :
      (spans spans' : Spans) (factor sk : ℕ) → SlopesReversed spans spans' n
      → (names_drift (n - 1) code ≡ true → ValleysReversed spans spans' n)
      → MirrorRun (spans_stretch factor sk spans n code) (spans_stretch factor sk spans' n code') (spans_count n code)
  unfolding spans_stretch spans_count
  spans_mirror spans spans' factor sk t r = record { each = λ i j h. rw (← c.named) (go i j (names_drift (n - 1) code) refl h) }
    where
      go :
          (i j : ℕ) (b : Bool) → names_drift (n - 1) code ≡ b → suc (i + j) ≡ cond b 4 (2 * n)
          → Mirror (cond b (valley_drift sk spans n (drift_named code) i) (multi_span factor sk spans n (eqb code 1) i))
          (cond b (valley_drift sk spans' n (drift_named code') j) (multi_span factor sk spans' n (eqb code' 1) j))
      go i j true e h = (valley_drift_mirror spans spans' n t (r e) sk (drift_named code) (drift_named code') (c.valley e)).each i j h
      go i j false e h = rw (← c.other e) ((multi_span_mirror factor sk (eqb code 1) n spans spans' t).each i j h)

  pub spans_count_mirrored : spans_count n code ≡ spans_count n code'
  unfolding spans_count
  spans_count_mirrored = rw c.named
