-- Kind 7: its stretches are a ramp on each side of the projection and what is left of the roof there, and rise with sk.
use Prim.Native.Nat.{ℕ, zero, suc, ◌+◌, ◌-◌, ◌*◌, ◌≤◌, ◌<◌}
use mathlib.Core.Path.{◌≡◌, refl}
use mathlib.Core.Bool.{Bool, true, false, cond}
use borrow.Author.Tests.{ltb-true, ltb-false}
use lib.Dec.{ltb}
use native.Mathlib.Omega.{arith}
use Rattle.figures.specs.Ranges.{within}
use Rattle.rounding.specs.Load.{Load, Positive}
use Rattle.rounding.proofs.Limited.{held_low}
use Rattle.standard.specs.Coefficients.{drift_length, mu_projection}
use Rattle.standard.specs.Stretch.{even, start_of, eight_tenths}
use Rattle.standard.specs.Projection.{projection_length, projection_load, projection_row, projection, projection_count}
use Rattle.standard.specs.Numerators.{projection_num}
use Rattle.standard.proofs.Numerators.{projection_positive, projection_is}
use Rattle.standard.proofs.Runs.{Readable, Level, Upward, Rises, WellFormed, even_readable, even_level, even_ends, formed, outside, ramp_beside}
use Rattle.standard.proofs.Loads.{alone_positive, eight_tenths_positive, alone_up, steady_up, load_without_up}

module _ (ls left right : ℕ) (hl : 0 < ls) (ha : 0 < left) (hb : 0 < right) (peak rest : Load) (p : Positive peak) (r : Positive rest) where
  row_readable : (j : ℕ) → (j ≡ 0 → ls < left) → (2 < j → ls < right) → Readable (projection_row ls peak rest left right j)
  unfolding projection_row
  row_readable zero f g = even_readable _ _ (omega (arith, f refl)) r
  row_readable (suc zero) f g = record { some = omega arith; inside = omega arith; from_positive = r; to_positive = p }
  row_readable (suc (suc zero)) f g = record { some = omega arith; inside = omega arith; from_positive = p; to_positive = r }
  row_readable (suc (suc (suc j))) f g = even_readable _ _ (omega (arith, g (omega arith))) r

  -- a and b: something is left of the roof on the left, and on the right
  row_formed :
      (a b : Bool) → (a ≡ true → ls < left) → (a ≡ false → left ≤ ls) → (b ≡ true → ls < right) → (b ≡ false → right ≤ ls)
      → WellFormed (λ i. projection_row ls peak rest left right (cond a i (suc i))) (cond a 1 0 + (2 + cond b 1 0)) (4 * (left + right))
  unfolding start_of projection_row
  row_formed true true f f' g g' =
      formed _ _ _ (omega arith) (omega arith) (λ i h. row_readable i (λ z. f refl) (λ z. g refl)) (omega (arith, f refl, g refl))
  row_formed true false f f' g g' =
      formed _ _ _ (omega arith) (omega arith) (λ i h. row_readable i (λ z. f refl) (λ z. absurd (omega arith))) (omega (arith, f refl, g' refl))
  row_formed false true f f' g g' =
      formed _ _ _ (omega arith) (omega arith) (λ i h. row_readable (suc i) (λ z. absurd (omega arith)) (λ z. g refl)) (omega (arith, f' refl, g refl))
  row_formed false false f f' g g' =
      formed _ _ _ (omega arith) (omega arith)
      (λ i h. row_readable (suc i) (λ z. absurd (omega arith)) (λ z. absurd (omega arith)))
      (omega (arith, f' refl, g' refl))

module _ (ls left right : ℕ) where
  row_rises :
      (peak rest peak' rest' : Load) → Upward peak peak' → Upward rest rest' → (j : ℕ)
      → Rises (projection_row ls peak rest left right j) (projection_row ls peak' rest' left right j)
  unfolding projection_row
  row_rises peak rest peak' rest' p r zero = even_ends _ _ _ r
  row_rises peak rest peak' rest' p r (suc zero) = record { extent = refl; skip = refl; full = refl; from = r; to = p }
  row_rises peak rest peak' rest' p r (suc (suc zero)) = record { extent = refl; skip = refl; full = refl; from = p; to = r }
  row_rises peak rest peak' rest' p r (suc (suc (suc j))) = even_ends _ _ _ r

  row_level : (peak rest : Load) (j : ℕ) → (1 ≤ j → j ≤ 2 → ⊥) → Level (projection_row ls peak rest left right j)
  unfolding projection_row
  row_level peak rest zero o = even_level _ _
  row_level peak rest (suc zero) o = absurd (o (omega arith) (omega arith))
  row_level peak rest (suc (suc zero)) o = absurd (o (omega arith) (omega arith))
  row_level peak rest (suc (suc (suc j))) o = even_level _ _

pub projection_length_positive : (h : ℕ) → 0 < projection_length h
unfolding drift_length
projection_length_positive h = omega (arith, held_low 5000 15000 (2 * h))

projection_num_up : (h s t : ℕ) → s ≤ t → projection_num h s ≤ projection_num h t
unfolding projection_num
projection_num_up h s t p = omega arith

module _ (factor h : ℕ) where
  projection_up : (s t : ℕ) → 0 < s → s ≤ t → Upward (projection_load factor s h) (projection_load factor t h)
  unfolding projection_load
  projection_up s t hs p =
      alone_up _ _
      (load_without_up factor s t (mu_projection h s) (mu_projection h t) _ _ 10 (omega arith)
      (projection_is h s hs) (projection_is h t (omega arith)) (projection_num_up h s t p))

  projection_load_positive : (sk : ℕ) → 0 < sk → Positive (projection_load factor sk h)
  unfolding projection_load
  projection_load_positive sk hs = alone_positive (mu_projection h sk) factor sk (projection_positive h sk hs)

module _ (factor h left right : ℕ) where
  pub projection_formed :
      (sk : ℕ) → 0 < sk → 0 < left → 0 < right
      → WellFormed (projection factor sk h left right) (projection_count h left right) (4 * (left + right))
  unfolding projection projection_count
  projection_formed sk hs a b =
      row_formed (projection_length h) left right (projection_length_positive h) a b
      (projection_load factor sk h) (eight_tenths factor sk) (projection_load_positive factor h sk hs) (eight_tenths_positive factor sk)
      (ltb (projection_length h) left) (ltb (projection_length h) right) (ltb-true _ _) (ltb-false _ _) (ltb-true _ _) (ltb-false _ _)

  pub projection_rises : (s t i : ℕ) → 0 < s → s ≤ t → Rises (projection factor s h left right i) (projection factor t h left right i)
  unfolding projection
  projection_rises s t i hs p = row_rises (projection_length h) left right _ _ _ _ (projection_up factor h s t hs p) (steady_up factor s t _ p) _

  pub projection_level :
      (sk i : ℕ) → within 1 2 (cond (ltb (projection_length h) left) i (suc i)) ≡ false → Level (projection factor sk h left right i)
  unfolding projection
  projection_level sk i e = row_level (projection_length h) left right _ _ _ (outside 1 2 _ e)

pub projection_apart :
    (h left right i : ℕ) → suc i < projection_count h left right → within 1 2 (cond (ltb (projection_length h) left) i (suc i)) ≡ false
    → within 1 2 (cond (ltb (projection_length h) left) (suc i) (suc (suc i))) ≡ false → ⊥
unfolding projection_count
projection_apart h left right i c e e' =
    ramp_beside (ltb (projection_length h) left) 2 i (omega arith) (omega (arith, at_most_one (ltb (projection_length h) right))) e e'
  where
    at_most_one : (b : Bool) → cond b 1 0 ≤ 1
    at_most_one true = omega arith
    at_most_one false = omega arith

-- past the ramps, the row is even
pub row_last :
    (ls : ℕ) (peak rest : Load) (left right j : ℕ) → (j ≡ 0 → ⊥) → (j ≡ 1 → ⊥) → (j ≡ 2 → ⊥)
    → projection_row ls peak rest left right j ≡ even (4 * (right - ls)) rest
unfolding projection_row
row_last ls peak rest left right zero a b c = absurd (a refl)
row_last ls peak rest left right (suc zero) a b c = absurd (b refl)
row_last ls peak rest left right (suc (suc zero)) a b c = absurd (c refl)
row_last ls peak rest left right (suc (suc (suc j))) a b c = refl

-- where the index stands in the full row, a stretch at the row's ends has a length
pub record ProjectionRow (ls left right i j : ℕ) : Type 0 where
  pub few : i < 32
  pub first : j ≡ 0 → ls < left
  pub last : 2 < j → ls < right

projection_row_by :
    (a b : Bool) (ls left right i : ℕ) → (a ≡ true → ls < left) → (b ≡ true → ls < right) → i < cond a 1 0 + (2 + cond b 1 0)
    → ProjectionRow ls left right i (cond a i (suc i))
projection_row_by true true ls left right i f g h = record { few = omega arith; first = λ e. f refl; last = λ e. g refl }
projection_row_by true false ls left right i f g h = record { few = omega arith; first = λ e. f refl; last = λ e. absurd (omega arith) }
projection_row_by false true ls left right i f g h = record { few = omega arith; first = λ e. absurd (omega arith); last = λ e. g refl }
projection_row_by false false ls left right i f g h = record { few = omega arith; first = λ e. absurd (omega arith); last = λ e. absurd (omega arith) }

pub projection_row_lem :
    (h left right i ls j : ℕ) → i < projection_count h left right → ls ≡ projection_length h → j ≡ cond (ltb ls left) i (suc i)
    → ProjectionRow ls left right i j
unfolding projection_count
projection_row_lem h left right i ls j lt e f =
    rw f (projection_row_by (ltb ls left) (ltb ls right) ls left right i (ltb-true ls left) (ltb-true ls right) (rw e lt))

pub projection_few : (h left right i : ℕ) → i < projection_count h left right → i < 32
projection_few h left right i lt = (projection_row_lem h left right i _ _ lt refl refl).few
