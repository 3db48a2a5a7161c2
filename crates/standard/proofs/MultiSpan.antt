-- Kind 4: its stretches are the slopes from left to right, and rise with sk.
use Prim.Native.Nat.{ℕ, zero, suc, ◌+◌, ◌-◌, ◌*◌, ◌%◌, ◌≤◌, ◌<◌}
use mathlib.Core.Path.{◌≡◌, refl}
use mathlib.Core.Bool.{Bool, true, false, cond, ◌||◌}
use borrow.Author.Tests.{eqb-true}
use lib.Dec.{eqb}
use native.Mathlib.Omega.{arith}
use Rattle.std.proofs.lemmas.Bool.{false≢true}
use Rattle.figures.specs.Spans.{slope_of}
use Rattle.figures.specs.declared.slopes.Spans.{Spans}
use Rattle.figures.specs.Bounds.{SlopeIn, MultiSpanIn}
use Rattle.rounding.specs.Load.{Load, Positive}
use Rattle.standard.specs.Stretch.{start_of}
use Rattle.standard.specs.MultiSpan.{own_load, valley_load, multi_span_from, multi_span_to, multi_span, widths}
use Rattle.standard.proofs.Numerators.{mu1_positive, mu2_positive}
use Rattle.standard.proofs.Runs.{Readable, Level, Upward, SameLengths, Rises, WellFormed, ramp_readable, ramp_ends, formed}
use Rattle.standard.proofs.Loads.{alone_positive, steady_up}

either_positive : (b : Bool) (l m : Load) → Positive l → Positive m → Positive (cond b l m)
either_positive true l m p q = p
either_positive false l m p q = q

-- two stretches whose own loads are in a relation, and the loads at their valleys too
module _ (R : Load → Load → Type 0) where
  either_ends : (b : Bool) (l m l' m' : Load) → R l l' → R m m' → R (cond b l m) (cond b l' m')
  either_ends true l m l' m' p q = p
  either_ends false l m l' m' p q = q

  pub multi_span_ends :
      (factor sk sk' : ℕ) (spans spans' : Spans) (count : ℕ) (undrifted : Bool) (i : ℕ) → (slope_of spans i).width ≡ (slope_of spans' i).width
      → R (own_load factor sk spans i) (own_load factor sk' spans' i)
      → ((j : ℕ) → R (valley_load factor sk spans j) (valley_load factor sk' spans' j))
      → SameLengths R (multi_span factor sk spans count undrifted i) (multi_span factor sk' spans' count undrifted i)
  unfolding multi_span multi_span_from multi_span_to
  multi_span_ends factor sk sk' spans spans' count undrifted i w o v =
      rw w
      (ramp_ends _ _ _ _ _
      (either_ends (undrifted || eqb i 0 || eqb (i % 2) 1) _ _ _ _ o (v (i - 1)))
      (either_ends (undrifted || eqb (i + 1) (2 * count) || eqb (i % 2) 0) _ _ _ _ o (v i)))

module _ (spans : Spans) where
  pub widths_most : (n : ℕ) → ((i : ℕ) → i < n → SlopeIn (slope_of spans i)) → widths spans n ≤ 100000 * n
  unfolding widths
  widths_most zero f = omega arith
  widths_most (suc n) f = omega (arith, widths_most n (λ i h. f i (omega arith)), (f n (omega arith)).width.high)

  module _ (factor : ℕ) where
    own_positive : (sk i : ℕ) → Positive (own_load factor sk spans i)
    unfolding own_load
    own_positive sk i = alone_positive _ factor sk (mu1_positive (slope_of spans i).pitch)

    valley_positive : (sk i : ℕ) → Positive (valley_load factor sk spans i)
    unfolding valley_load
    valley_positive sk i = alone_positive _ factor sk (mu2_positive ((slope_of spans i).pitch + (slope_of spans (i + 1)).pitch))

    own_up : (s t i : ℕ) → s ≤ t → Upward (own_load factor s spans i) (own_load factor t spans i)
    unfolding own_load
    own_up s t i p = steady_up factor s t _ p

    valley_up : (s t i : ℕ) → s ≤ t → Upward (valley_load factor s spans i) (valley_load factor t spans i)
    unfolding valley_load
    valley_up s t i p = steady_up factor s t _ p

    module _ (count : ℕ) (undrifted : Bool) where
      multi_span_readable : (sk i : ℕ) → SlopeIn (slope_of spans i) → Readable (multi_span factor sk spans count undrifted i)
      unfolding multi_span multi_span_from multi_span_to
      multi_span_readable sk i f =
          ramp_readable _ _ _ (omega (arith, f.width.low))
          (either_positive (undrifted || eqb i 0 || eqb (i % 2) 1) _ _ (own_positive sk i) (valley_positive sk _))
          (either_positive (undrifted || eqb (i + 1) (2 * count) || eqb (i % 2) 0) _ _ (own_positive sk i) (valley_positive sk i))

      slopes_length : (sk n : ℕ) → start_of (multi_span factor sk spans count undrifted) n ≡ 4 * widths spans n
      unfolding start_of multi_span widths
      slopes_length sk zero = refl
      slopes_length sk (suc n) = omega (arith, slopes_length sk n)

      pub multi_span_formed :
          (sk : ℕ) → MultiSpanIn count spans
          → WellFormed (multi_span factor sk spans count undrifted) (2 * count) (4 * widths spans (2 * count))
      multi_span_formed sk f =
          formed _ _ _ (omega (arith, f.count.low)) (omega (arith, f.count.high))
          (λ i h. multi_span_readable sk i (f.spans i h))
          (slopes_length sk (2 * count))

      pub multi_span_rises : (s t i : ℕ) → s ≤ t → Rises (multi_span factor s spans count undrifted i) (multi_span factor t spans count undrifted i)
      multi_span_rises s t i p = multi_span_ends Upward factor s t spans spans count undrifted i refl (own_up s t i p) (λ j. valley_up s t j p)

    -- The first slope is a left one and the last a right one, so neither has a valley: its own load stands at both its ends.
    pub multi_span_level :
        (count : ℕ) (undrifted : Bool) (sk i : ℕ) → (undrifted || eqb i 0 || eqb (i + 1) (2 * count)) ≡ true
        → Level (multi_span factor sk spans count undrifted i)
    unfolding multi_span multi_span_from multi_span_to
    multi_span_level count undrifted sk i h = record { ends = own_both undrifted (eqb i 0) (eqb (i + 1) (2 * count)) refl refl h; skip = refl; full = refl }
      where
        own_both :
            (u a b : Bool) → eqb i 0 ≡ a → eqb (i + 1) (2 * count) ≡ b → (u || a || b) ≡ true
            → cond (u || a || eqb (i % 2) 1) (own_load factor sk spans i) (valley_load factor sk spans (i - 1))
            ≡ cond (u || b || eqb (i % 2) 0) (own_load factor sk spans i) (valley_load factor sk spans i)
        own_both true a b p q r = refl
        own_both false true true p q r = refl
        own_both false true false p q r = let e : i % 2 ≡ 0 = omega (arith, eqb-true i 0 p) in rw e
        own_both false false true p q r = let e : i % 2 ≡ 1 = omega (arith, eqb-true (i + 1) (2 * count) q) in rw e
        own_both false false false p q r = absurd (false≢true r)
