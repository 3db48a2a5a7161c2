-- Runs of stretches: what holds of each stretch holds of the load read.
use Prim.Native.Nat.{ℕ, zero, suc, ◌+◌, ◌-◌, ◌*◌, ◌≤◌, ◌<◌}
use mathlib.Core.Path.{◌≡◌, refl, ◌∙◌}
use mathlib.Core.Bool.{Bool, true, false, cond}
use mathlib.Core.Logic.{⊎_elim}
use borrow.Author.Tests.{le-leb}
use lib.ListN.{get_or}
use native.Mathlib.Decide.{dec_le}
use native.Mathlib.Nat.{eq-or-lt_of_le}
use native.Mathlib.Omega.{arith}
use Rattle.std.proofs.lemmas.Bool.{true≢false}
use Rattle.figures.specs.Ranges.{within}
use Rattle.figures.proofs.Laws.{within_in}
use Rattle.rounding.specs.Fraction.{Fraction, over, Below, Same, Near}
use Rattle.rounding.specs.Limit.{larger}
use Rattle.rounding.specs.Load.{Load, Positive, alone, break_load}
use Rattle.rounding.specs.Ramp.{reading}
use Rattle.rounding.specs.Up.{ceil_div, rounded_up}
use Rattle.rounding.proofs.Distance.{near_nothing, near_larger, near_near}
use Rattle.rounding.proofs.Ramps.{ramp_near, ramp_mono, ramp_finer, reading_start, reading_end, even_whole}
use Rattle.rounding.proofs.Limited.{larger_is, larger_left, larger_right, below_trans}
use Rattle.standard.specs.Stretch.{Stretch, even, ramp, no_load, start_of, segment, holds}
use Rattle.standard.specs.Stretch.{read_in, exact_in, reading_at, exact_reading_at, greatest, exact_greatest}
use Rattle.standard.specs.Units.{parts}

-- a stretch fit to be read
pub record Readable (s : Stretch) : Type 0 where
  pub some : 0 < s.extent
  pub inside : s.skip + s.extent ≤ s.full
  pub from_positive : Positive s.from
  pub to_positive : Positive s.to

pub full_positive : (s : Stretch) → Readable s → 0 < s.full
full_positive s f = omega arith

pub ramp_readable : (extent : ℕ) (l m : Load) → 0 < extent → Positive l → Positive m → Readable (ramp extent l m)
ramp_readable extent l m h p q = record { some = h; inside = omega arith; from_positive = p; to_positive = q }

pub even_readable : (extent : ℕ) (l : Load) → 0 < extent → Positive l → Readable (even extent l)
even_readable extent l h p = ramp_readable extent l l h p p

-- "Reading a cut ramp from its rounded end": a ramp of length 8 from 0 to 5, cut at 7 where it reads 5, reads 2 at 3
pub cut_ramp : read_in 10 (record { extent = 7; skip = 0; full = 8; from = no_load; to = alone (over 5 1) }) 3 ≡ 2
unfolding read_in reading break_load rounded_up ceil_div
cut_ramp = refl

-- the load at an end that is not cut: its break load, rounded up to a whole N/m²
module _ (g : ℕ) (hg : 0 < g) (s : Stretch) (f : Readable s) where
  pub start_load : s.skip ≡ 0 → read_in g s 0 ≡ ceil_div (break_load g s.from) g
  unfolding read_in
  start_load e =
      let z : s.skip + 0 ≡ 0 = omega arith in
      rw z (reading_start g _ _ s.full hg (full_positive s f))

  pub end_load : s.skip + s.extent ≡ s.full → read_in g s s.extent ≡ ceil_div (break_load g s.to) g
  unfolding read_in
  end_load e = rw e (reading_end g _ _ s.full hg (full_positive s f))

-- what is returned there
abbrev pub returned : Load → ℕ
returned l = ceil_div (break_load parts l) parts

-- a stretch of one load
pub record Level (s : Stretch) : Type 0 where
  pub ends : s.from ≡ s.to
  pub skip : s.skip ≡ 0
  pub full : s.full ≡ s.extent

pub even_level : (extent : ℕ) (l : Load) → Level (even extent l)
even_level extent l = record { ends = refl; skip = refl; full = refl }

-- what is read lies near the exact load, and no finer parts make it more
module _ (s : Stretch) (x : ℕ) (f : Readable s) where
  pub near_in : (g : ℕ) → 0 < g → x ≤ s.extent → Near g (g + 2) (read_in g s x) (exact_in s x)
  unfolding read_in exact_in
  near_in g hg h = ramp_near g s.from s.to s.full (s.skip + x) hg f.from_positive f.to_positive (full_positive s f) (omega arith)

  pub finer_in : (g h : ℕ) → 0 < g → 0 < h → read_in (g * h) s x ≤ read_in g s x
  unfolding read_in
  finer_in g h hg hh = ramp_finer g h s.from s.to s.full (s.skip + x) hg hh (full_positive s f) f.from_positive f.to_positive

  -- of the loads in tenths and in whole N/m²
  pub tenths_no_more : read_in 10 s x ≤ read_in 1 s x
  tenths_no_more = finer_in 1 10 (omega arith) (omega arith)

  pub tenths_close : x ≤ s.extent → read_in 1 s x ≤ read_in 10 s x + 2
  tenths_close h = omega (arith, near_near 1 3 10 12 _ _ (exact_in s x) (near_in 1 (omega arith) h) (near_in 10 (omega arith) h))

-- an even stretch of a load of one part reads the smallest whole number not below it, whatever the parts
pub even_in : (g extent x : ℕ) (f : Fraction) → 0 < g → 0 < f.den → 0 < extent → x ≤ extent → read_in g (even extent (alone f)) x ≡ rounded_up 1 f
unfolding read_in
even_in g extent x f hg hd h hx = even_whole g f extent (0 + x) hg hd h (omega arith)

-- a load no more than another, part by part
pub record Upward (l m : Load) : Type 0 where
  pub first : Below l.first m.first
  pub second : Below l.second m.second

-- two stretches of the same lengths, whose loads at either end are in a relation
pub record SameLengths (R : Load → Load → Type 0) (s t : Stretch) : Type 0 where
  pub extent : s.extent ≡ t.extent
  pub skip : s.skip ≡ t.skip
  pub full : s.full ≡ t.full
  pub from : R s.from t.from
  pub to : R s.to t.to

module _ {R : Load → Load → Type 0} where
  pub ramp_ends : (extent : ℕ) (l m l' m' : Load) → R l l' → R m m' → SameLengths R (ramp extent l m) (ramp extent l' m')
  ramp_ends extent l m l' m' p q = record { extent = refl; skip = refl; full = refl; from = p; to = q }

  pub even_ends : (extent : ℕ) (l l' : Load) → R l l' → SameLengths R (even extent l) (even extent l')
  even_ends extent l l' p = ramp_ends extent l l l' l' p p

  pub same_start : (S T : ℕ → Stretch) (n : ℕ) → ((i : ℕ) → i < n → SameLengths R (S i) (T i)) → start_of S n ≡ start_of T n
  unfolding start_of
  same_start S T zero r = refl
  same_start S T (suc n) r = omega (arith, same_start S T n (λ i b. r i (omega arith)), (r n (omega arith)).extent)

-- the second loaded no less
abbrev pub Rises : Stretch → Stretch → Type 0
Rises s t = SameLengths Upward s t

rise_in : (g : ℕ) (s t : Stretch) (x : ℕ) → 0 < g → Readable s → Readable t → Rises s t → read_in g s x ≤ read_in g t x
unfolding read_in
rise_in g s t x hg f h r =
    rw (← r.skip, ← r.full)
    (ramp_mono g s.from s.to t.from t.to s.full (s.skip + x) hg
    f.from_positive f.to_positive h.from_positive h.to_positive
    r.from.first r.from.second r.to.first r.to.second (full_positive s f))

module _ (S : ℕ → Stretch) (p : ℕ) where
  within_reach : (i : ℕ) → holds (start_of S i) (S i).extent p ≡ true → p - start_of S i ≤ (S i).extent
  unfolding holds
  within_reach i h = omega (arith, (within_in (start_of S i) (start_of S i + (S i).extent) p h).1)

  pub near_at : (g i : ℕ) → 0 < g → Readable (S i) → Near g (g + 2) (reading_at g S p i) (exact_reading_at S p i)
  unfolding reading_at exact_reading_at
  near_at g i hg f = go (holds (start_of S i) (S i).extent p) refl
    where
      go :
          (b : Bool) → holds (start_of S i) (S i).extent p ≡ b
          → Near g (g + 2) (cond b (read_in g (S i) (p - start_of S i)) 0) (cond b (exact_in (S i) (p - start_of S i)) (over 0 1))
      go true h = near_in (S i) (p - start_of S i) f g hg (within_reach i h)
      go false h = near_nothing g (g + 2) (omega arith)

  pub near_greatest : (g n : ℕ) → 0 < g → ((i : ℕ) → i < n → Readable (S i)) → Near g (g + 2) (greatest g S p n) (exact_greatest S p n)
  unfolding greatest exact_greatest
  near_greatest g zero hg f = near_nothing g (g + 2) (omega arith)
  near_greatest g (suc n) hg f =
      near_larger g (g + 2) _ _ _ _ (near_greatest g n hg (λ i h. f i (omega arith))) (near_at g n hg (f n (omega arith)))

  finer_at : (g h i : ℕ) → 0 < g → 0 < h → Readable (S i) → reading_at (g * h) S p i ≤ reading_at g S p i
  unfolding reading_at
  finer_at g h i hg hh f = go (holds (start_of S i) (S i).extent p)
    where
      go : (b : Bool) → cond b (read_in (g * h) (S i) (p - start_of S i)) 0 ≤ cond b (read_in g (S i) (p - start_of S i)) 0
      go true = finer_in (S i) (p - start_of S i) f g h hg hh
      go false = omega arith

  pub finer_greatest : (g h n : ℕ) → 0 < g → 0 < h → ((i : ℕ) → i < n → Readable (S i)) → greatest (g * h) S p n ≤ greatest g S p n
  unfolding greatest
  finer_greatest g h zero hg hh f = omega arith
  finer_greatest g h (suc n) hg hh f =
      omega (arith, finer_greatest g h n hg hh (λ i b. f i (omega arith)), finer_at g h n hg hh (f n (omega arith)))

  -- both lie near the same exact rule
  pub tenths_greatest_close : (n : ℕ) → ((i : ℕ) → i < n → Readable (S i)) → greatest 1 S p n ≤ greatest 10 S p n + 2
  tenths_greatest_close n f =
      omega (arith, near_near 1 3 10 12 _ _ (exact_greatest S p n) (near_greatest 1 n (omega arith) f) (near_greatest 10 n (omega arith) f))

  -- a stretch of the first n holds the station
  pub record Held (n : ℕ) : Type 0 where
    pub at : ℕ
    pub below : at < n
    pub held : holds (start_of S at) (S at).extent p ≡ true

  here : (n : ℕ) → start_of S n ≤ p → p ≤ start_of S n + (S n).extent → Held (suc n)
  unfolding holds
  here n a b = record { at = n; below = omega arith; held = simp (le-leb (start_of S n) p a, le-leb p (start_of S n + (S n).extent) b) }

  pub covered : (n : ℕ) → 0 < n → p ≤ start_of S n → Held n
  unfolding start_of
  covered zero pos h = elim pos [ ]
  covered (suc zero) pos h = here 0 (omega arith) h
  covered (suc (suc n)) pos h =
      elim (dec_le (start_of S (suc n)) p) [
        | yes a ↦ here (suc n) a h
        | no a ↦
            let w = covered (suc n) (omega arith) (omega arith) in
            record { at = w.at; below = omega (arith, w.below); held = w.held }
      ]

  module _ (g : ℕ) where
    -- The greatest is what its name says: no stretch reads more, and one of them reads it.
    pub reads_less : (n i : ℕ) → i < n → reading_at g S p i ≤ greatest g S p n
    unfolding greatest
    reads_less zero i h = absurd (omega arith)
    reads_less (suc n) i h =
        ⊎_elim (λ same. rw same (omega arith)) (λ below. omega (arith, reads_less n i below)) (eq-or-lt_of_le {n = i} {m = n} (omega arith))

    pub record Read (n : ℕ) : Type 0 where
      pub at : ℕ
      pub below : at < n
      pub read : greatest g S p n ≡ reading_at g S p at

    pub is_read : (n : ℕ) → Read (suc n)
    unfolding greatest
    is_read zero = record { at = 0; below = omega arith; read = omega arith }
    is_read (suc n) =
        let w = is_read n in
        elim (dec_le (greatest g S p (suc n)) (reading_at g S p (suc n))) [
          | yes a ↦ record { at = suc n; below = omega arith; read = omega arith }
          | no a ↦ record { at = w.at; below = omega (arith, w.below); read = omega (arith, w.read) }
        ]

    -- of the first n, a stretch that holds the station reads the greatest there
    pub record ReadHeld (n : ℕ) : Type 0 where
      pub at : ℕ
      pub below : at < n
      pub held : holds (start_of S at) (S at).extent p ≡ true
      pub read : greatest g S p n ≡ read_in g (S at) (p - start_of S at)

    -- Where the one that reads it does not hold the station, the greatest is 0, and so is the reading of each that does.
    pub one_reads : (n : ℕ) → 0 < n → p ≤ start_of S n → ReadHeld n
    unfolding reading_at
    one_reads zero pos h = elim pos [ ]
    one_reads (suc n) pos h =
        let w = is_read n in
        go w (holds (start_of S w.at) (S w.at).extent p) refl
      where
        go : (w : Read (suc n)) (b : Bool) → holds (start_of S w.at) (S w.at).extent p ≡ b → ReadHeld (suc n)
        go w true e = record { at = w.at; below = w.below; held = e; read = w.read ∙ rw e }
        go w false e =
            let z : greatest g S p (suc n) ≡ 0 = w.read ∙ rw e in
            let v = covered (suc n) pos h in
            let r : reading_at g S p v.at ≡ read_in g (S v.at) (p - start_of S v.at) = rw v.held in
            record { at = v.at; below = v.below; held = v.held; read = omega (arith, reads_less (suc n) v.at v.below) }

    -- and it is the least that none of the readings exceeds
    pub greatest_most : (n k : ℕ) → ((i : ℕ) → i < n → reading_at g S p i ≤ k) → greatest g S p n ≤ k
    unfolding greatest
    greatest_most zero k h = omega arith
    greatest_most (suc n) k h = omega (arith, greatest_most n k (λ i b. h i (omega arith)), h n (omega arith))

  -- The same of the exact rule: none of the first n lies above the greatest, which is the least so, and is that of one of them.
  pub exact_less : (n i : ℕ) → ((j : ℕ) → j < n → Readable (S j)) → i < n → Below (exact_reading_at S p i) (exact_greatest S p n)
  unfolding exact_greatest
  exact_less zero i f h = absurd (omega arith)
  exact_less (suc n) i f h =
      ⊎_elim
      (λ (same : i ≡ n). rw same (larger_right (exact_greatest S p n) (exact_reading_at S p n)))
      (λ (below : i < n).
      below_trans _ (exact_greatest S p n) _ (near_greatest 1 n (omega arith) (λ j k. f j (omega arith))).positive
      (exact_less n i (λ j k. f j (omega arith)) below) (larger_left (exact_greatest S p n) (exact_reading_at S p n)))
      (eq-or-lt_of_le {n = i} {m = n} (omega arith))

  pub exact_greatest_most : (n : ℕ) (f : Fraction) → ((i : ℕ) → i < n → Below (exact_reading_at S p i) f) → Below (exact_greatest S p n) f
  unfolding exact_greatest Below
  exact_greatest_most zero f h = omega arith
  exact_greatest_most (suc n) f h =
      larger_is (λ z. Below z f) _ _ (λ c. h n (omega arith)) (λ c. exact_greatest_most n f (λ i b. h i (omega arith)))

  record ExactOf (n : ℕ) (e : Fraction) : Type 0 where
    at : ℕ
    below : at < n
    read : e ≡ exact_reading_at S p at

  is_exact : (n : ℕ) → ExactOf (suc n) (exact_greatest S p (suc n))
  unfolding exact_greatest larger
  is_exact zero = record { at = 0; below = omega arith; read = rw (le-leb (0 * (exact_reading_at S p 0).den) ((exact_reading_at S p 0).num * 1) (omega arith)) }
  is_exact (suc n) =
      let w = is_exact n in
      larger_is (λ z. ExactOf (suc (suc n)) z) (exact_greatest S p (suc n)) (exact_reading_at S p (suc n))
      (λ c. record { at = suc n; below = omega arith; read = refl })
      (λ c. record { at = w.at; below = omega (arith, w.below); read = w.read })

  -- of the first n, a stretch that holds the station has the exact rule's load there
  pub record ExactHeld (n : ℕ) : Type 0 where
    pub at : ℕ
    pub below : at < n
    pub held : holds (start_of S at) (S at).extent p ≡ true
    pub exact : Same (exact_greatest S p n) (exact_in (S at) (p - start_of S at))

  -- Where the one that gives it does not hold the station, the greatest is 0, and so is the load of each that does.
  pub one_exact : (n : ℕ) → ((i : ℕ) → i < n → Readable (S i)) → 0 < n → p ≤ start_of S n → ExactHeld n
  unfolding exact_reading_at Same Below
  one_exact zero f pos h = elim pos [ ]
  one_exact (suc n) f pos h =
      let w = is_exact n in
      go w (holds (start_of S w.at) (S w.at).extent p) refl
    where
      go : (w : ExactOf (suc n) (exact_greatest S p (suc n))) (b : Bool) → holds (start_of S w.at) (S w.at).extent p ≡ b → ExactHeld (suc n)
      go w true e =
          let z : exact_greatest S p (suc n) ≡ exact_in (S w.at) (p - start_of S w.at) = w.read ∙ rw e in
          record { at = w.at; below = w.below; held = e; exact = rw z }
      go w false e =
          let z : exact_greatest S p (suc n) ≡ over 0 1 = w.read ∙ rw e in
          let v = covered (suc n) pos h in
          let r : exact_reading_at S p v.at ≡ exact_in (S v.at) (p - start_of S v.at) = rw v.held in
          let b : Below (exact_in (S v.at) (p - start_of S v.at)) (over 0 1) = rw (r, z) at (exact_less (suc n) v.at f v.below) in
          record { at = v.at; below = v.below; held = v.held; exact = rw z (omega (arith, b)) }

module _ (g : ℕ) (hg : 0 < g) (S T : ℕ → Stretch) (p : ℕ) where
  rise_at : (i : ℕ) → start_of S i ≡ start_of T i → Readable (S i) → Readable (T i) → Rises (S i) (T i) → reading_at g S p i ≤ reading_at g T p i
  unfolding reading_at read_in
  rise_at i e f h r = rw (← e, ← r.extent) (go (holds (start_of S i) (S i).extent p))
    where
      go : (b : Bool) → cond b (read_in g (S i) (p - start_of S i)) 0 ≤ cond b (read_in g (T i) (p - start_of S i)) 0
      go true = rise_in g (S i) (T i) (p - start_of S i) hg f h r
      go false = omega arith

  pub rise_greatest :
      (n : ℕ) → ((i : ℕ) → i < n → Readable (S i)) → ((i : ℕ) → i < n → Readable (T i)) → ((i : ℕ) → i < n → Rises (S i) (T i))
      → greatest g S p n ≤ greatest g T p n
  unfolding greatest
  rise_greatest zero f h r = omega arith
  rise_greatest (suc n) f h r =
      omega (
        arith,
        rise_greatest n (λ i b. f i (omega arith)) (λ i b. h i (omega arith)) (λ i b. r i (omega arith)),
        rise_at n (same_start S T n (λ i b. r i (omega arith))) (f n (omega arith)) (h n (omega arith)) (r n (omega arith)),
      )

-- the first n stretches of a run begin at 0, join end to end and end at `end`; none has length zero, and every denominator is positive
pub record WellFormed (S : ℕ → Stretch) (n end : ℕ) : Type 0 where
  pub some : 0 < n
  pub few : n ≤ 32
  pub each : (i : ℕ) → i < n → Readable (S i)
  pub first : start_of S 0 ≡ 0
  pub joined : (i : ℕ) → start_of S (suc i) ≡ start_of S i + (S i).extent
  pub last : start_of S n ≡ end

-- Starts are sums of lengths, so that a run begins at 0 and joins by itself.
pub formed :
    (S : ℕ → Stretch) (n end : ℕ) → 0 < n → n ≤ 32 → ((i : ℕ) → i < n → Readable (S i)) → start_of S n ≡ end → WellFormed S n end
unfolding start_of
formed S n end some few each last = record { some = some; few = few; each = each; first = refl; joined = λ i. refl; last = last }

pub outside : (low high x : ℕ) → within low high x ≡ false → low ≤ x → x ≤ high → ⊥
outside low high x e a b = true≢false (rw (le-leb low x a, le-leb x high b) at e)

-- every start of a run lies before its end
pub starts_up : (S : ℕ → Stretch) (i k : ℕ) → start_of S i ≤ start_of S (i + k)
unfolding start_of
starts_up S i zero = let e : i + 0 ≡ i = omega arith in rw e (omega arith)
starts_up S i (suc k) = let e : i + suc k ≡ suc (i + k) = omega arith in rw e (omega (arith, starts_up S i k))

pub starts_within : (S : ℕ → Stretch) (n end i : ℕ) → WellFormed S n end → i ≤ n → start_of S i ≤ end
starts_within S n end i w h =
    let e : i + (n - i) ≡ n = omega arith in
    let up : start_of S i ≤ start_of S n = rw e at (starts_up S i (n - i)) in
    omega (arith, w.last)

-- In a row of n ramps between two even ends, of which either may be missing, one of two neighbours is a ramp.
pub ramp_beside :
    (first : Bool) (n i : ℕ) → 1 ≤ n → suc i < cond first 1 0 + (n + 1) → within 1 n (cond first i (suc i)) ≡ false
    → within 1 n (cond first (suc i) (suc (suc i))) ≡ false → ⊥
ramp_beside true n zero h c e e' = outside 1 n 1 e' (omega arith) h
ramp_beside true n (suc i) h c e e' = outside 1 n (suc i) e (omega arith) (omega arith)
ramp_beside false n i h c e e' = outside 1 n (suc i) e (omega arith) (omega arith)

-- a segment's two loads are what its own line reads at its two ends
module _ (g : ℕ) (S : ℕ → Stretch) (i : ℕ) where
  held_here : (p : ℕ) → start_of S i ≤ p → p ≤ start_of S i + (S i).extent → read_in g (S i) (p - start_of S i) ≡ reading_at g S p i
  unfolding reading_at holds
  held_here p a b = rw (le-leb (start_of S i) p a, le-leb p (start_of S i + (S i).extent) b)

  pub start_reads : get_or (segment g S i) 2 0 ≡ reading_at g S (start_of S i) i
  unfolding segment
  start_reads =
      let e : start_of S i - start_of S i ≡ 0 = omega arith in
      rw e at (held_here (start_of S i) (omega arith) (omega arith))

  pub end_reads : get_or (segment g S i) 3 0 ≡ reading_at g S (start_of S i + (S i).extent) i
  unfolding segment
  end_reads =
      let e : start_of S i + (S i).extent - start_of S i ≡ (S i).extent = omega arith in
      rw e at (held_here (start_of S i + (S i).extent) (omega arith) (omega arith))
