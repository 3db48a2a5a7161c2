-- The slopes of a multi-span roof: which end is a valley, and what its loads are.
use Prim.Native.Nat.{ℕ, zero, suc, ◌≤◌, ◌+◌, ◌-◌, ◌*◌, ◌%◌, ◌<◌}
use mathlib.Core.Path.{◌≡◌, refl}
use mathlib.Core.Bool.{Bool, true, false, ◌||◌}
use borrow.Author.Tests.{eqb-true, eqb-false}
use borrow.Rule.Slice.PartMut.{mid_of}
use lib.Dec.{eqb}
use lib.ListN.{length, take, drop}
use lib.Seq.{take-add}
use Rattle.std.specs.List.{sum_by}
use Rattle.std.proofs.lemmas.List.Sums.{sum_by_more, sum_by-append}
use native.Mathlib.Numerals.{add-one}
use native.Mathlib.Omega.{arith}
use Rattle.figures.specs.Spans.{flat, slope_of}
use Rattle.figures.specs.declared.slopes.Spans.{Spans}
use Rattle.standard.specs.MultiSpan.{own_load, valley_load, multi_span_from, multi_span_to, multi_span, widths}
use Rattle.rounding.specs.Load.{break_load}
use Rattle.standard.specs.Units.{parts}
use Rattle.ramps.specs.Ramps.{RoundedStretch, ramp_of}
use Rattle.ramps.proofs.Stretches.{made, whole_ramp}

-- none of three tests held
none : (a b c : Bool) → (a || b || c) ≡ false → (a ≡ false) × (b ≡ false) × (c ≡ false)
none true b c h = let z : ◌≡◌ {A = ℕ} 0 1 = cc in absurd (omega arith)
none false true c h = let z : ◌≡◌ {A = ℕ} 0 1 = cc in absurd (omega arith)
none false false c h = (refl, refl, h)

module _ (undrifted : Bool) (i count : ℕ) where
  -- the first and the last slope, and every one in code 1
  abbrev pub level : Bool
  level = undrifted || eqb i 0 || eqb (i + 1) (2 * count)

  -- a level slope has a valley at neither end
  no_valley :
      (u a b : Bool) → eqb i 0 ≡ a → eqb (i + 1) (2 * count) ≡ b → (u || a || b) ≡ true
      → ((u || a || eqb (i % 2) 1) ≡ true) × ((u || b || eqb (i % 2) 0) ≡ true)
  no_valley true a b p q r = (refl, refl)
  no_valley false true true p q r = (refl, refl)
  no_valley false true false p q r = let e : i % 2 ≡ 0 = omega (arith, eqb-true i 0 p) in (refl, rw e)
  no_valley false false true p q r = let e : i % 2 ≡ 1 = omega (arith, eqb-true (i + 1) (2 * count) q) in (rw e, refl)
  no_valley false false false p q r = let z : ◌≡◌ {A = ℕ} 0 1 = cc in absurd (omega arith)

  pub inner : level ≡ false → (0 < i) × (i + 1 ≡ 2 * count → ⊥)
  inner h =
      let n = none undrifted (eqb i 0) (eqb (i + 1) (2 * count)) h in
      (omega (arith, eqb-false i 0 n.1), eqb-false (i + 1) (2 * count) n.2)

  module _ (factor sk : ℕ) (l : Spans) (x y : ℕ) where
    abbrev From : ℕ → Type 0
    From x = x ≡ break_load parts (multi_span_from factor sk l undrifted i)

    abbrev To : ℕ → Type 0
    To x = x ≡ break_load parts (multi_span_to factor sk l count undrifted i)

    abbrev IsRamp : RoundedStretch → ℕ → ℕ → Type 0
    IsRamp r from to =
        r ≡ made (4 * (slope_of l i).width) 0 (4 * (slope_of l i).width) from to → r ≡ ramp_of (multi_span factor sk l count undrifted i)

    between : (r : RoundedStretch) (from to : ℕ) → From from → To to → IsRamp r from to
    unfolding multi_span
    between r from to p q e = whole_ramp r _ _ _ _ _ e p q

    -- its own load, and the load at its valley
    module _ (own : x ≡ break_load parts (own_load factor sk l i)) where
      pub level_ramp : (r : RoundedStretch) → level ≡ true → IsRamp r x x
      unfolding multi_span_from multi_span_to
      level_ramp r h =
          let t = no_valley undrifted (eqb i 0) (eqb (i + 1) (2 * count)) refl refl h in
          between r x x (rw t.0 own) (rw t.1 own)

      module _ (r : RoundedStretch) (h : level ≡ false) where
        pub left_ramp : i % 2 ≡ 0 → y ≡ break_load parts (valley_load factor sk l (i - 1)) → IsRamp r y x
        unfolding multi_span_from multi_span_to
        left_ramp p q =
            let n = none undrifted (eqb i 0) (eqb (i + 1) (2 * count)) h in
            between r y x (rw (n.0, n.1, p) q) (rw (n.0, n.2, p) own)

        pub right_ramp : i % 2 ≡ 1 → y ≡ break_load parts (valley_load factor sk l i) → IsRamp r x y
        unfolding multi_span_from multi_span_to
        right_ramp p q =
            let n = none undrifted (eqb i 0) (eqb (i + 1) (2 * count)) h in
            between r x y (rw (n.0, n.1, p) own) (rw (n.0, n.2, p) q)

-- the widths of the first n slopes, and of those between two, by the list of slopes
widths_first : (l : Spans) (n : ℕ) → n ≤ length l.slopes → widths l n ≡ sum_by (λ s. s.width) (take n l.slopes)
unfolding widths slope_of
widths_first l zero h = refl
widths_first l (suc n) h =
    let e = sum_by_more (λ s. s.width) l.slopes n flat (omega arith) in
    let p = widths_first l n (omega arith) in
    rw (← add-one n) (omega (arith, e, p))

pub widths_part :
    (l : Spans) (from to : ℕ) → from ≤ to → to ≤ length l.slopes
    → widths l from + sum_by (λ s. s.width) (mid_of from (to - from) l.slopes) ≡ widths l to
widths_part l from to h k =
    let e : from + (to - from) ≡ to = omega arith in
    let p = take-add from (to - from) l.slopes in
    let q = sum_by-append (λ s. s.width) (take from l.slopes) (take (to - from) (drop from l.slopes)) in
    rw (widths_first l from (omega arith), widths_first l to k, ← q, ← p, e)
