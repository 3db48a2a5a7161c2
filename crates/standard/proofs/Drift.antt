-- Annex B: a drift's stretches cover the roof, and rise with its peaks; the peak is the smallest of its limits, and rises with sk.
use Prim.Native.Nat.{ℕ, zero, suc, ◌+◌, ◌*◌, ◌≤◌, ◌<◌}
use mathlib.Core.Path.{◌≡◌, refl, sym, ◌∙◌}
use mathlib.Core.Bool.{Bool, true, false, cond}
use borrow.Author.Tests.{ltb-true, ltb-false}
use lib.Dec.{ltb}
use native.Mathlib.Nat.{mul-le-mul_left, mul-le-mul_right}
use native.Mathlib.Omega.{arith}
use Rattle.figures.specs.Ranges.{within}
use Rattle.rounding.specs.Fraction.{Fraction, over, Below, Same}
use Rattle.rounding.specs.Limit.{smaller}
use Rattle.rounding.specs.Load.{Positive, alone}
use Rattle.rounding.specs.Up.{ceil_div, rounded_up}
use Rattle.rounding.proofs.Limited.{below_refl, smaller_positive, smaller_mono, smaller_over}
use Rattle.rounding.proofs.Rounding.{least, up_same}
use Rattle.standard.specs.Drift.{together, peak, drift_row, drift_index, drift, drift_count, drift_ramped}
use Rattle.standard.specs.Numerators.{peak_num}
use Rattle.standard.specs.Stretch.{start_of}
use Rattle.standard.specs.declared.Lengths.{Lengths}
use Rattle.standard.proofs.Runs.{Readable, Level, Rises, WellFormed, even_readable, ramp_readable, even_level, even_ends, ramp_ends, formed, outside}
use Rattle.standard.proofs.Loads.{no_load_positive, alone_up, no_load_up}

one_part : (f : Fraction) → 0 < f.den → Positive (alone f)
one_part f h = record { first = h; second = omega arith }

-- a: the roof is bare on the left; b: there is a ramp up; d: the roof is bare on the right
module _ (l : Lengths) (left right : Fraction) (hl : 0 < left.den) (hr : 0 < right.den) (hd : 0 < l.down) where
  row_readable : (j : ℕ) → (j ≡ 0 → 0 < l.before) → (j ≡ 1 → 0 < l.up) → (2 < j → 0 < l.after) → Readable (drift_row l left right j)
  unfolding drift_row
  row_readable zero f g k = even_readable _ _ (omega (arith, f refl)) no_load_positive
  row_readable (suc zero) f g k = ramp_readable _ _ _ (omega (arith, g refl)) no_load_positive (one_part left hl)
  row_readable (suc (suc zero)) f g k = ramp_readable _ _ _ (omega arith) (one_part right hr) no_load_positive
  row_readable (suc (suc (suc j))) f g k = even_readable _ _ (omega (arith, k (omega arith))) no_load_positive

  -- no stretch is missing
  pub row_formed : (end : ℕ) → together l ≡ end → 0 < l.before → 0 < l.up → 0 < l.after → WellFormed (drift_row l left right) 4 (4 * end)
  unfolding start_of drift_row
  row_formed end e f g k = formed _ _ _ (omega arith) (omega arith) (λ i h. row_readable i (λ z. f) (λ z. g) (λ z. k)) (omega arith)

  parts_formed :
      (a b d : Bool) → (a ≡ true → 0 < l.before) → (a ≡ false → l.before ≤ 0) → (b ≡ true → 0 < l.up) → (b ≡ false → l.up ≤ 0)
      → (d ≡ true → 0 < l.after) → (d ≡ false → l.after ≤ 0) → (0 < l.before → 0 < l.up)
      → WellFormed (λ i. drift_row l left right (cond a i (cond b (suc i) (suc (suc i))))) (cond a 1 0 + (cond b 1 0 + (1 + cond d 1 0))) (4 * together l)
  unfolding start_of drift_row
  parts_formed true true true f f' g g' k k' o = row_formed (together l) refl (f refl) (g refl) (k refl)
  parts_formed true true false f f' g g' k k' o =
      formed _ _ _ (omega arith) (omega arith) (λ i h. row_readable i (λ z. f refl) (λ z. g refl) (λ z. absurd (omega arith))) (omega (arith, k' refl))
  parts_formed true false d f f' g g' k k' o = absurd (omega (arith, o (f refl), g' refl))
  parts_formed false true true f f' g g' k k' o =
      formed _ _ _ (omega arith) (omega arith)
      (λ i h. row_readable (suc i) (λ z. absurd (omega arith)) (λ z. g refl) (λ z. k refl)) (omega (arith, f' refl))
  parts_formed false true false f f' g g' k k' o =
      formed _ _ _ (omega arith) (omega arith)
      (λ i h. row_readable (suc i) (λ z. absurd (omega arith)) (λ z. g refl) (λ z. absurd (omega arith))) (omega (arith, f' refl, k' refl))
  parts_formed false false true f f' g g' k k' o =
      formed _ _ _ (omega arith) (omega arith)
      (λ i h. row_readable (suc (suc i)) (λ z. absurd (omega arith)) (λ z. absurd (omega arith)) (λ z. k refl)) (omega (arith, f' refl, g' refl))
  parts_formed false false false f f' g g' k k' o =
      formed _ _ _ (omega arith) (omega arith)
      (λ i h. row_readable (suc (suc i)) (λ z. absurd (omega arith)) (λ z. absurd (omega arith)) (λ z. absurd (omega arith)))
      (omega (arith, f' refl, g' refl, k' refl))

  -- Where the roof is bare on the left there is a ramp up, so that only the row's first and last stretches can be missing.
  pub drift_formed : (end : ℕ) → together l ≡ end → (0 < l.before → 0 < l.up) → WellFormed (drift l left right) (drift_count l) (4 * end)
  unfolding drift drift_index drift_count
  drift_formed end e o =
      rw (← e)
      (parts_formed (ltb 0 l.before) (ltb 0 l.up) (ltb 0 l.after) (ltb-true _ _) (ltb-false _ _) (ltb-true _ _) (ltb-false _ _)
      (ltb-true _ _) (ltb-false _ _) o)

module _ (l : Lengths) where
  pub row_rises : (e f e' f' : Fraction) → Below e e' → Below f f' → (j : ℕ) → Rises (drift_row l e f j) (drift_row l e' f' j)
  unfolding drift_row
  row_rises e f e' f' p q zero = even_ends _ _ _ no_load_up
  row_rises e f e' f' p q (suc zero) = ramp_ends _ _ _ _ _ no_load_up (alone_up e e' p)
  row_rises e f e' f' p q (suc (suc zero)) = ramp_ends _ _ _ _ _ (alone_up f f' q) no_load_up
  row_rises e f e' f' p q (suc (suc (suc j))) = even_ends _ _ _ no_load_up

  pub drift_rises : (e f e' f' : Fraction) → Below e e' → Below f f' → (i : ℕ) → Rises (drift l e f i) (drift l e' f' i)
  unfolding drift
  drift_rises e f e' f' p q i = row_rises e f e' f' p q _

  pub row_level : (e f : Fraction) (j : ℕ) → within 1 2 j ≡ false → Level (drift_row l e f j)
  unfolding drift_row
  row_level e f zero h = even_level _ _
  row_level e f (suc zero) h = absurd (outside 1 2 1 h (omega arith) (omega arith))
  row_level e f (suc (suc zero)) h = absurd (outside 1 2 2 h (omega arith) (omega arith))
  row_level e f (suc (suc (suc j))) h = even_level _ _

  pub drift_level : (e f : Fraction) (i : ℕ) → drift_ramped l i ≡ false → Level (drift l e f i)
  unfolding drift
  drift_level e f i h = row_level e f _ h

  at_most_one : (b : Bool) → cond b 1 0 ≤ 1
  at_most_one true = omega arith
  at_most_one false = omega arith

  pub few_stretches : drift_count l ≤ 4
  unfolding drift_count
  few_stretches = omega (arith, at_most_one (ltb 0 l.before), at_most_one (ltb 0 l.up), at_most_one (ltb 0 l.after))

  -- Of two neighbours one is a ramp.
  pub drift_apart : (i : ℕ) → suc i < drift_count l → drift_ramped l i ≡ false → drift_ramped l (suc i) ≡ false → ⊥
  unfolding drift_index drift_count
  drift_apart i c e e' = go (ltb 0 l.before) (ltb 0 l.up) i (omega (arith, at_most_one (ltb 0 l.after))) e e'
    where
      go :
          (a b : Bool) (i : ℕ) → suc i < cond a 1 0 + (cond b 1 0 + 2) → within 1 2 (cond a i (cond b (suc i) (suc (suc i)))) ≡ false
          → within 1 2 (cond a (suc i) (cond b (suc (suc i)) (suc (suc (suc i))))) ≡ false → ⊥
      go true b zero c e e' = outside 1 2 1 e' (omega arith) (omega arith)
      go true true (suc i) c e e' = outside 1 2 (suc i) e (omega arith) (omega arith)
      go true false (suc i) c e e' = outside 1 2 (suc i) e (omega arith) (omega arith)
      go false true i c e e' = outside 1 2 (suc i) e (omega arith) (omega arith)
      go false false i c e e' = outside 1 2 (suc (suc i)) e (omega arith) (omega arith)

-- a load over a length that does not name sk
pub over_up : (m n d : ℕ) → m ≤ n → Below (over m d) (over n d)
unfolding Below
over_up m n d p = mul-le-mul_right d p

module _ (times h b ls : ℕ) (hl : 0 < ls) where
  limits_positive : (sk : ℕ) → 0 < (smaller (over (2 * b * sk) ls) (over (times * sk) 1)).den
  limits_positive sk = smaller_positive (over (2 * b * sk) ls) (over (times * sk) 1) hl (omega arith)

  pub peak_positive : (sk : ℕ) → 0 < (peak times h b ls sk).den
  unfolding peak
  peak_positive sk = smaller_positive (over (2 * h) 1) _ (omega arith) (limits_positive sk)

  pub peak_up : (s t : ℕ) → s ≤ t → Below (peak times h b ls s) (peak times h b ls t)
  unfolding peak
  peak_up s t p =
      smaller_mono _ _ _ _ (below_refl (over (2 * h) 1))
      (smaller_mono _ _ _ _ (over_up _ _ ls (mul-le-mul_left (2 * b) p)) (over_up _ _ 1 (mul-le-mul_left times p)) hl (omega arith))
      (omega arith) (limits_positive s)

  -- over the one denominator ls, as code calculates it
  peak_is : (sk : ℕ) → Same (peak times h b ls sk) (over (peak_num times h b ls sk) ls)
  unfolding peak peak_num Same
  peak_is sk =
      smaller_over (over (2 * h) 1) _ _ _ ls (omega arith) (limits_positive sk) (times_ls (2 * h))
      (smaller_over (over (2 * b * sk) ls) _ _ _ ls hl (omega arith) refl (times_ls (times * sk)))
    where
      times_ls : (n : ℕ) → Same (over n 1) (over (n * ls) ls)
      times_ls n = omega arith

  -- So its load in parts is one division, and at most that many times sk.
  module _ (g sk n r : ℕ) (p : n ≡ g * peak_num times h b ls sk) (e : r ≡ ceil_div n ls) where
    pub peak_rounded : r ≡ rounded_up g (peak times h b ls sk)
    unfolding rounded_up
    peak_rounded = e ∙ rw p (sym (up_same g (peak times h b ls sk) (over (peak_num times h b ls sk) ls) (peak_positive sk) hl (peak_is sk)))

    pub peak_most : r ≤ g * (times * sk)
    unfolding peak_num
    peak_most =
        let m : peak_num times h b ls sk ≤ times * sk * ls = omega arith in
        rw e (least n ls (g * (times * sk)) hl (omega (arith, mul-le-mul_left g m)))
