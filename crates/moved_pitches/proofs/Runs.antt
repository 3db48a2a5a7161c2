-- Two runs of the same lengths: where the loads at every break of one lie at most d above those of the other, so does the exact rule at
-- every station, and what is read there lies at most d, rounded up to a whole N/m², above.
use Prim.Native.Nat.{ℕ, ◌+◌, ◌-◌, ◌≤◌, ◌<◌}
use mathlib.Core.Bool.{Bool, true, false, cond}
use mathlib.Core.Path.{◌≡◌, refl}
use native.Mathlib.Omega.{arith}
use Rattle.figures.proofs.Laws.{within_in}
use Rattle.rounding.specs.Fraction.{Fraction, over, sum}
use Rattle.rounding.specs.Up.{rounded_up}
use Rattle.standard.specs.Stretch.{Stretch, read_in, exact_in, start_of, holds, reading_at, exact_reading_at, greatest, exact_greatest}
use Rattle.standard.proofs.Runs.{Readable, SameLengths, full_positive, same_start, near_at, reads_less, greatest_most, exact_less, exact_greatest_most}
use Rattle.moved_pitches.specs.Apart.{AtMostAbove}
use Rattle.moved_pitches.proofs.Apart.{LoadsAbove, above_below, above_refl, lines_above, readings_above}

-- two stretches of the same lengths, the loads of the first at most d above those of the second
abbrev pub Above : Fraction → Stretch → Stretch → Type 0
Above d s t = SameLengths (LoadsAbove d) s t

module _ (d : Fraction) (s t : Stretch) (x : ℕ) (f : Readable s) (b : x ≤ s.extent) (a : Above d s t) where
  exact_in_above : AtMostAbove d (exact_in s x) (exact_in t x)
  unfolding exact_in
  exact_in_above = rw (← a.skip, ← a.full) (lines_above d s.from s.to t.from t.to s.full (s.skip + x) (omega (arith, f.inside)) a.from a.to)

  pub read_in_above : (g : ℕ) → 0 < g → 0 < d.den → Readable t → read_in g s x ≤ read_in g t x + rounded_up 1 d
  unfolding read_in
  read_in_above g hg hd h =
      rw (← a.skip, ← a.full)
      (readings_above g d s.from s.to t.from t.to s.full (s.skip + x) hg hd f.from_positive f.to_positive h.from_positive h.to_positive
      (full_positive s f) (omega (arith, f.inside)) a.from a.to)

module _ (d : Fraction) (hd : 0 < d.den) (S T : ℕ → Stretch) (p : ℕ) where
  module _ (i : ℕ) (e : start_of S i ≡ start_of T i) (f : Readable (S i)) (a : Above d (S i) (T i)) where
    reached : holds (start_of S i) (S i).extent p ≡ true → p - start_of S i ≤ (S i).extent
    unfolding holds
    reached h = omega (arith, (within_in (start_of S i) (start_of S i + (S i).extent) p h).1)

    exact_at_above : AtMostAbove d (exact_reading_at S p i) (exact_reading_at T p i)
    unfolding exact_reading_at exact_in
    exact_at_above = rw (← e, ← a.extent) (go (holds (start_of S i) (S i).extent p) refl)
      where
        go :
            (b : Bool) → holds (start_of S i) (S i).extent p ≡ b
            → AtMostAbove d (cond b (exact_in (S i) (p - start_of S i)) (over 0 1)) (cond b (exact_in (T i) (p - start_of S i)) (over 0 1))
        go true h = exact_in_above d (S i) (T i) (p - start_of S i) f (reached h) a
        go false h = above_refl d (over 0 1)

    read_at_above : (g : ℕ) → 0 < g → Readable (T i) → reading_at g S p i ≤ reading_at g T p i + rounded_up 1 d
    unfolding reading_at read_in
    read_at_above g hg k = rw (← e, ← a.extent) (go (holds (start_of S i) (S i).extent p) refl)
      where
        go :
            (b : Bool) → holds (start_of S i) (S i).extent p ≡ b
            → cond b (read_in g (S i) (p - start_of S i)) 0 ≤ cond b (read_in g (T i) (p - start_of S i)) 0 + rounded_up 1 d
        go true h = read_in_above d (S i) (T i) (p - start_of S i) f (reached h) a g hg hd k
        go false h = omega arith

  module _ (n : ℕ) (f : (i : ℕ) → i < n → Readable (S i)) (h : (i : ℕ) → i < n → Readable (T i)) (a : (i : ℕ) → i < n → Above d (S i) (T i)) where
    starts : (i : ℕ) → i < n → start_of S i ≡ start_of T i
    starts i b = same_start S T i (λ j c. a j (omega arith))

    pub exact_greatest_above : AtMostAbove d (exact_greatest S p n) (exact_greatest T p n)
    unfolding AtMostAbove
    exact_greatest_above =
        exact_greatest_most S p n (sum (exact_greatest T p n) d)
        (λ i b. above_below d _ (exact_reading_at T p i) _ (near_at T p 1 i (omega arith) (h i b)).positive hd
        (exact_at_above i (starts i b) (f i b) (a i b)) (exact_less T p n i h b))

    pub greatest_above : (g : ℕ) → 0 < g → greatest g S p n ≤ greatest g T p n + rounded_up 1 d
    greatest_above g hg =
        greatest_most S p g n _ (λ i b. omega (arith, read_at_above i (starts i b) (f i b) (a i b) g hg (h i b), reads_less T p g n i b))
