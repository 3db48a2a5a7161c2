-- From its other end a roof breaks the same rule, and is as long.
use Prim.Native.Nat.{ℕ, zero, suc, ◌+◌, ◌-◌, ◌*◌, ◌≤◌, ◌<◌}
use mathlib.Core.Path.{◌≡◌, refl, sym, ap, ◌∙◌}
use mathlib.Core.Bool.{Bool, true, false, not, ◌&&◌, ◌||◌, not-not, and_comm, or_comm}
use mathlib.Core.List.{List}
use mathlib.Core.Logic.{⊎_elim}
use lib.Dec.{ltb, eqb}
use lib.ListN.{length, get_or, get_or-eq_default}
use native.Mathlib.Decide.{dec_le}
use native.Mathlib.Nat.{eq-or-lt_of_le}
use native.Mathlib.Omega.{arith}
use Rattle.std.proofs.lemmas.Bool.{false≢true}
use Rattle.figures.specs.Ranges.{within}
use Rattle.figures.specs.Rules.{refused_if, first_of}
use Rattle.figures.specs.RoofRules.{slope_fields, guarded_fields, slopes_fields, valley_fields, valleys_fields, span_fields, steep_valley, steep_valleys}
use Rattle.figures.specs.RoofRules.{multi_span_refusal, shape_refusal, roof_refusal}
use Rattle.figures.specs.Spans.{flat, level, slope_of, valley_of}
use Rattle.figures.specs.declared.slopes.Spans.{Spans}
use Rattle.figures.specs.declared.roof.Shape.{Shape}
use Rattle.figures.proofs.Accepted.{sound}
use Rattle.figures.proofs.Laws.{both, none_broken}
use Rattle.standard.specs.Arrangements.{end_in, end_of}
use Rattle.standard.specs.Obstruction.{obstruction_end}
use Rattle.turned_roofs.specs.Turned.{spans_reversed, mirrored}
use Rattle.turned_roofs.proofs.SpanRows.{slopes_reversed, valleys_reversed, same_width}
use Rattle.turned_roofs.proofs.Shapes.{every_shape, spans_twice}

-- a test counted from one number to the next holds of the first n exactly where it holds of each
module _ (test so_far : ℕ → Bool) (none : so_far 0 ≡ true) (more : (i : ℕ) → so_far (suc i) ≡ (so_far i && test i)) where
  each : (n : ℕ) → so_far n ≡ true → (i : ℕ) → i < n → test i ≡ true
  each zero h i b = absurd (omega arith)
  each (suc n) h i b =
      let w = both (so_far n) (test n) (sym (more n) ∙ h) in
      ⊎_elim (λ (same : i ≡ n). rw same w.1) (λ (below : i < n). each n w.0 i below) (eq-or-lt_of_le {n = i} {m = n} (omega arith))

  all : (n : ℕ) → ((i : ℕ) → i < n → test i ≡ true) → so_far n ≡ true
  all zero h = none
  all (suc n) h = more n ∙ rw (all n (λ i b. h i (omega arith)), h n (omega arith))

-- what no row has behind its end passes no test, so that a row is as long as the test goes
long_enough : {X : Type 0} (row : List X) (d : X) (n : ℕ) → ((i : ℕ) → i < n → get_or row i d ≡ d → ⊥) → n ≤ length row
long_enough row d n h =
    elim (dec_le n (length row)) [
      | yes a ↦ a
      | no a ↦ absurd (h (length row) (omega arith) (get_or-eq_default row d {n = length row} (omega arith)))
    ]

module _ (spans : Spans) (n : ℕ) where
  each_slope : slopes_fields spans n ≡ true → (i : ℕ) → i < n → slope_fields (slope_of spans i) ≡ true
  unfolding slopes_fields
  each_slope = each (λ i. slope_fields (slope_of spans i)) (slopes_fields spans) refl (λ i. refl) n

  all_slopes : ((i : ℕ) → i < n → slope_fields (slope_of spans i) ≡ true) → slopes_fields spans n ≡ true
  unfolding slopes_fields
  all_slopes = all (λ i. slope_fields (slope_of spans i)) (slopes_fields spans) refl (λ i. refl) n

  each_valley : valleys_fields spans n ≡ true → (i : ℕ) → i < n → valley_fields (valley_of spans i) ≡ true
  unfolding valleys_fields
  each_valley = each (λ i. valley_fields (valley_of spans i)) (valleys_fields spans) refl (λ i. refl) n

  all_valleys : ((i : ℕ) → i < n → valley_fields (valley_of spans i) ≡ true) → valleys_fields spans n ≡ true
  unfolding valleys_fields
  all_valleys = all (λ i. valley_fields (valley_of spans i)) (valleys_fields spans) refl (λ i. refl) n

  -- a slope of no width and a valley of no depth are refused
  slopes_enough : slopes_fields spans n ≡ true → n ≤ length spans.slopes
  unfolding slope_of
  slopes_enough h = long_enough spans.slopes flat n (λ i b e. false≢true (rw e at (each_slope h i b)))

  valleys_enough : valleys_fields spans n ≡ true → n ≤ length spans.valleys
  unfolding valley_of
  valleys_enough h = long_enough spans.valleys level n (λ i b e. false≢true (rw e at (each_valley h i b)))

-- tests that hold together
same_bool : (a b : Bool) → (a ≡ true → b ≡ true) → (b ≡ true → a ≡ true) → a ≡ b
same_bool true b p q = sym (p refl)
same_bool false true p q = q refl
same_bool false false p q = refl

same_not : (a b : Bool) → not a ≡ not b → a ≡ b
same_not a b h = sym (not-not a) ∙ ap not h ∙ not-not b

not_or : (a b : Bool) → not (a || b) ≡ (not a && not b)
not_or true b = refl
not_or false b = refl

steep_from_right : (p q : ℕ) → steep_valley p q ≡ steep_valley q p
steep_from_right p q = rw (or_comm (ltb 600 p) (ltb 600 q), and_comm (eqb p 600) (eqb q 600))

-- from one end and from the other, of spans that the rules have passed
module _ (spans : Spans) (n : ℕ) where
  slopes_kept : slopes_fields spans (2 * n) ≡ true → slopes_fields (spans_reversed spans n) (2 * n) ≡ true
  slopes_kept h =
      let t = slopes_reversed spans n (slopes_enough spans (2 * n) h) in
      all_slopes (spans_reversed spans n) (2 * n)
      (λ i b. rw (← t.each (2 * n - suc i) i (omega arith)) (each_slope spans (2 * n) h (2 * n - suc i) (omega arith)))

  valleys_kept : valleys_fields spans (n - 1) ≡ true → valleys_fields (spans_reversed spans n) (n - 1) ≡ true
  valleys_kept h =
      let t = valleys_reversed spans n (valleys_enough spans (n - 1) h) in
      all_valleys (spans_reversed spans n) (n - 1)
      (λ i b. rw (← t.each (n - 1 - suc i) i (omega arith)) (each_valley spans (n - 1) h (n - 1 - suc i) (omega arith)))

module _ (spans : Spans) where
  abbrev level_valley : ℕ → Bool
  level_valley i = not (steep_valley (slope_of spans (2 * i + 1)).pitch (slope_of spans (2 * i + 2)).pitch)

  more_level : (i : ℕ) → not (steep_valleys spans (suc i)) ≡ (not (steep_valleys spans i) && level_valley i)
  unfolding steep_valleys
  more_level i = not_or (steep_valleys spans i) _

  abbrev none_steep : ℕ → Bool
  none_steep i = not (steep_valleys spans i)

  no_steep : none_steep 0 ≡ true
  unfolding steep_valleys
  no_steep = refl

module _ (spans : Spans) (n : ℕ) where
  level_kept : slopes_fields spans (2 * n) ≡ true → none_steep spans (n - 1) ≡ true → none_steep (spans_reversed spans n) (n - 1) ≡ true
  level_kept f h =
      let t = slopes_reversed spans n (slopes_enough spans (2 * n) f) in
      let r = spans_reversed spans n in
      all (level_valley r) (none_steep r) (no_steep r) (more_level r) (n - 1)
      (λ i b.
      let j = n - 1 - suc i in
      rw (
        ← t.each (2 * j + 2) (2 * i + 1) (omega arith),
        ← t.each (2 * j + 1) (2 * i + 2) (omega arith),
        steep_from_right (slope_of spans (2 * j + 2)).pitch (slope_of spans (2 * j + 1)).pitch,
      )
      (each (level_valley spans) (none_steep spans) (no_steep spans) (more_level spans) (n - 1) h j (omega arith)))

module _ (spans : Spans) (n : ℕ) where
  slopes_same : slopes_fields (spans_reversed spans n) (2 * n) ≡ slopes_fields spans (2 * n)
  slopes_same = same_bool _ _ (λ h. rw (spans_twice spans n) at (slopes_kept (spans_reversed spans n) n h)) (slopes_kept spans n)

  valleys_same : valleys_fields (spans_reversed spans n) (n - 1) ≡ valleys_fields spans (n - 1)
  valleys_same = same_bool _ _ (λ h. rw (spans_twice spans n) at (valleys_kept (spans_reversed spans n) n h)) (valleys_kept spans n)

  steep_same : slopes_fields spans (2 * n) ≡ true → steep_valleys (spans_reversed spans n) (n - 1) ≡ steep_valleys spans (n - 1)
  steep_same f =
      same_not _ _
      (same_bool _ _
      (λ h. rw (spans_twice spans n) at (level_kept (spans_reversed spans n) n (slopes_kept spans n f) h))
      (level_kept spans n f))

-- a later rule matters where the fields are in their ranges
later : (a b : Bool) (x y : ℕ) → (b ≡ true → x ≡ y) → first_of (refused_if (not (a && b)) 8) x ≡ first_of (refused_if (not (a && b)) 8) y
unfolding first_of
later true true x y p = p refl
later true false x y p = refl
later false b x y p = refl

last_two : (a b c : Bool) → (a && b && c) ≡ (a && c && b)
last_two true b c = and_comm b c
last_two false b c = refl

both_exchanged : (a b c d : Bool) → (a && b && c && d) ≡ (b && a && d && c)
both_exchanged true true c d = and_comm c d
both_exchanged true false c d = refl
both_exchanged false true c d = refl
both_exchanged false false c d = refl

-- the number of the first rule that is broken, 0 for none
pub same_refusal : (shape : Shape) (spans : Spans) → roof_refusal (mirrored shape spans) ≡ shape_refusal shape spans
unfolding shape_refusal mirrored
same_refusal =
    every_shape (λ shape. (spans : Spans) → roof_refusal (mirrored shape spans) ≡ shape_refusal shape spans)
    (λ left right spans. ap (λ (b : Bool). refused_if (not b) 8) (and_comm (guarded_fields right) (guarded_fields left)))
    (λ count drifts spans.
    rw (slopes_same spans count, valleys_same spans count)
    (later (within 2 16 count) (span_fields drifts spans count) _ _
    (λ h. rw (steep_same spans count (both (slopes_fields spans (2 * count)) _ h).0))))
    (λ p spans. ap (λ (b : Bool). refused_if (not b) 8) (last_two (within 1 30000 p.h) (within 1 100000 p.right) (within 1 100000 p.left)))
    (λ h1 h2 b1 b2 spans.
    ap (λ (b : Bool). refused_if (not b) 8) (both_exchanged (within 1 1000 h2) (within 1 1000 h1) (within 1 100000 b2) (within 1 100000 b1)))
    (λ shape same off spans. rw (same spans))

-- what the rules tell of accepted spans: there are as many as are counted
pub record Enough (drifts : Bool) (spans : Spans) (n : ℕ) : Type 0 where
  pub slopes : 2 * n ≤ length spans.slopes
  pub valleys : drifts ≡ true → n - 1 ≤ length spans.valleys

pub enough : (drifts : Bool) (spans : Spans) (n : ℕ) → multi_span_refusal n drifts spans ≡ 0 → Enough drifts spans n
enough drifts spans n h =
    let a = sound _ 8 (omega arith) (none_broken _ _ h).0 in
    let f = (both (within 2 16 n) (span_fields drifts spans n) a).1 in
    let w = both (slopes_fields spans (2 * n)) (not drifts || valleys_fields spans (n - 1)) f in
    record { slopes = slopes_enough spans (2 * n) w.0; valleys = λ e. valleys_enough spans (n - 1) (rw e at w.1) }

pub same_end : (shape : Shape) (spans : Spans) → shape_refusal shape spans ≡ 0 → end_of (mirrored shape spans) ≡ end_in shape spans
unfolding shape_refusal mirrored end_of end_in obstruction_end
same_end =
    every_shape (λ shape. (spans : Spans) → shape_refusal shape spans ≡ 0 → end_of (mirrored shape spans) ≡ end_in shape spans)
    (λ left right spans h. omega arith)
    (λ count drifts spans h. omega (arith, same_width spans _ count (slopes_reversed spans count (enough drifts spans count h).slopes)))
    (λ p spans h. omega arith)
    (λ h1 h2 b1 b2 spans h. omega arith)
    (λ shape same off spans h. rw (same spans))
