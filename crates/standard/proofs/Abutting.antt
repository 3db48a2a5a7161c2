-- Kind 6: its stretches are the drift and what is left of the roof, and rise with sk.
use Prim.Native.Nat.{ℕ, zero, suc, ◌+◌, ◌-◌, ◌*◌, ◌≤◌, ◌<◌}
use mathlib.Core.Path.{◌≡◌, refl}
use mathlib.Core.Bool.{Bool, true, false, cond, not, ◌&&◌}
use borrow.Author.Tests.{ltb-true, ltb-false}
use lib.Dec.{ltb, eqb}
use native.Mathlib.Nat.{mul-le-mul_left}
use native.Mathlib.Omega.{arith}
use Rattle.std.proofs.lemmas.Bool.{true≢false}
use Rattle.figures.specs.declared.slopes.Slope.{Slope}
use Rattle.rounding.specs.Load.{Load, Positive}
use Rattle.rounding.proofs.Limited.{min_mono, max_mono, held_low}
use Rattle.standard.specs.Coefficients.{drift_length, mu_wind, mu_slide}
use Rattle.standard.specs.Stretch.{even, start_of, eight_tenths}
use Rattle.standard.specs.Abutting.{abutting_length, wall_load, abutting_drift, abutting, abutting_count}
use Rattle.figures.specs.declared.national.National.{National}
use Rattle.standard.specs.Numerators.{wind_num}
use Rattle.standard.proofs.Numerators.{wind_positive, wind_is, slide_positive}
use Rattle.standard.proofs.Runs.{Readable, Level, Upward, Rises, WellFormed, even_readable, even_level, even_ends, formed}
use Rattle.standard.proofs.Loads.{load_positive, eight_tenths_positive, load_up, steady_up, load_without_up}

module _ (ls b2 : ℕ) (wall rest : Load) where
  drift_readable : 0 < ls → 0 < b2 → Positive wall → Positive rest → (i : ℕ) → (0 < i → ls < b2) → Readable (abutting_drift ls wall rest b2 i)
  unfolding abutting_drift
  drift_readable hl hb w r zero f = record { some = omega arith; inside = omega arith; from_positive = w; to_positive = r }
  drift_readable hl hb w r (suc i) f = even_readable _ _ (omega (arith, f (omega arith))) r

  drift_formed :
      0 < ls → 0 < b2 → Positive wall → Positive rest → (more : Bool) → (more ≡ true → ls < b2) → (more ≡ false → b2 ≤ ls)
      → WellFormed (abutting_drift ls wall rest b2) (cond more 2 1) (4 * b2)
  unfolding abutting_drift start_of
  drift_formed hl hb w r true f g =
      formed _ _ _ (omega arith) (omega arith) (λ i h. drift_readable hl hb w r i (λ z. f refl)) (omega (arith, f refl))
  drift_formed hl hb w r false f g =
      formed _ _ _ (omega arith) (omega arith) (λ i h. drift_readable hl hb w r i (λ z. absurd (omega arith))) (omega (arith, g refl))

wind_num_up : (national : National) (b h s t : ℕ) → s ≤ t → wind_num national b h s ≤ wind_num national b h t
unfolding wind_num
wind_num_up national b h s t p =
    max_mono (mul-le-mul_left (2 * h * national.low) p)
    (min_mono (mul-le-mul_left (2 * h * national.high) p) (min_mono (omega arith) (mul-le-mul_left (100 * b) p)))

pub length_positive : (national : National) (h : ℕ) → 0 < national.short → 0 < abutting_length national h
unfolding drift_length
length_positive national h p = omega (arith, held_low national.short national.long (2 * h))

module _ (national : National) (factor b1 b2 h : ℕ) (slope : Slope) (guard : ℕ) where
  wall_positive : (sk : ℕ) → 0 < sk → 0 < h → 0 < national.short → Positive (wall_load national factor sk b1 b2 h slope guard)
  unfolding wall_load
  wall_positive sk hs hh p =
      record {
        first = load_positive (mu_wind national b1 b2 h sk) factor sk (wind_positive national b1 b2 h sk hh hs);
        second = load_positive (mu_slide slope guard (abutting_length national h)) factor sk (slide_positive slope guard _ (length_positive national h p));
      }

  wall_up :
      (s t : ℕ) → 0 < s → s ≤ t → 0 < h
      → Upward (wall_load national factor s b1 b2 h slope guard) (wall_load national factor t b1 b2 h slope guard)
  unfolding wall_load
  wall_up s t hs p hh =
      record {
        first =
            load_without_up factor s t _ _ _ _ (200 * h) (omega arith)
            (wind_is national b1 b2 h s hh hs) (wind_is national b1 b2 h t hh (omega arith)) (wind_num_up national (b1 + b2) h s t p);
        second = load_up factor s t (mu_slide slope guard (abutting_length national h)) p;
      }

  pub abutting_formed :
      (undrifted : Bool) (sk : ℕ) → 0 < sk → 0 < national.short → 0 < b2 → 0 < h
      → WellFormed (abutting national factor sk b1 b2 h slope guard undrifted) (abutting_count national b2 h undrifted) (4 * b2)
  unfolding abutting abutting_count start_of
  abutting_formed true sk hs p hb hh =
      formed _ _ _ (omega arith) (omega arith) (λ i h. even_readable _ _ (omega arith) (eight_tenths_positive factor sk)) (omega arith)
  abutting_formed false sk hs p hb hh =
      drift_formed (abutting_length national h) b2 (wall_load national factor sk b1 b2 h slope guard) (eight_tenths factor sk)
      (length_positive national h p) hb (wall_positive sk hs hh p) (eight_tenths_positive factor sk)
      (ltb (abutting_length national h) b2) (ltb-true _ _) (ltb-false _ _)

  pub abutting_rises :
      (undrifted : Bool) (s t i : ℕ) → 0 < s → s ≤ t → 0 < h
      → Rises (abutting national factor s b1 b2 h slope guard undrifted i) (abutting national factor t b1 b2 h slope guard undrifted i)
  unfolding abutting abutting_drift
  abutting_rises true s t i hs p hh = even_ends _ _ _ (steady_up factor s t _ p)
  abutting_rises false s t zero hs p hh =
      record { extent = refl; skip = refl; full = refl; from = wall_up s t hs p hh; to = steady_up factor s t _ p }
  abutting_rises false s t (suc i) hs p hh = even_ends _ _ _ (steady_up factor s t _ p)

  pub abutting_level :
      (undrifted : Bool) (sk i : ℕ) → (not undrifted && eqb i 0) ≡ false → Level (abutting national factor sk b1 b2 h slope guard undrifted i)
  unfolding abutting abutting_drift
  abutting_level true sk i e = even_level _ _
  abutting_level false sk zero e = absurd (true≢false e)
  abutting_level false sk (suc i) e = even_level _ _

-- Of two stretches the first is a ramp.
pub abutting_apart :
    (national : National) (b2 h : ℕ) (undrifted : Bool) (i : ℕ) → suc i < abutting_count national b2 h undrifted
    → (not undrifted && eqb i 0) ≡ false → ⊥
unfolding abutting_count
abutting_apart national b2 h true i c e = omega arith
abutting_apart national b2 h false zero c e = true≢false e
abutting_apart national b2 h false (suc i) c e = at_most_two (ltb (abutting_length national h) b2) c
  where
    at_most_two : (more : Bool) → suc (suc i) < cond more 2 1 → ⊥
    at_most_two true c = omega arith
    at_most_two false c = omega arith

-- past the drift's ramp, the lower roof is longer than the drift
pub abutting_past :
    (national : National) (b2 h i : ℕ) (undrifted : Bool) → i < abutting_count national b2 h undrifted → undrifted ≡ false → (i ≡ 0 → ⊥)
    → abutting_length national h < b2
unfolding abutting_count
abutting_past national b2 h i true lt e n = absurd (true≢false e)
abutting_past national b2 h i false lt e n = go (ltb (abutting_length national h) b2) refl lt
  where
    go : (b : Bool) → ltb (abutting_length national h) b2 ≡ b → i < cond b 2 1 → abutting_length national h < b2
    go true q k = ltb-true (abutting_length national h) b2 q
    go false q k = absurd (n (omega arith))

pub abutting_rest : (ls : ℕ) (wall rest : Load) (b2 i : ℕ) → (i ≡ 0 → ⊥) → abutting_drift ls wall rest b2 i ≡ even (4 * (b2 - ls)) rest
unfolding abutting_drift
abutting_rest ls wall rest b2 zero h = absurd (h refl)
abutting_rest ls wall rest b2 (suc i) h = refl
