-- A run read from its other end: the load read at a station is that at the end less the station, and so is the exact rule's. The station
-- and the one from the other end add up to the end, so that no subtraction is needed.
use Prim.Native.Nat.{ℕ, zero, suc, ◌+◌, ◌-◌, ◌*◌, ◌≤◌, ◌<◌}
use mathlib.Core.Path.{◌≡◌, refl, sym, ap}
use mathlib.Core.Bool.{Bool, true, false, cond}
use mathlib.Core.List.{List, [], ◌∷◌}
use native.Mathlib.Omega.{arith}
use Rattle.figures.proofs.Laws.{within_in}
use Rattle.rounding.specs.Fraction.{Fraction, over, Below, Same}
use Rattle.rounding.specs.Ramp.{line, reading}
use Rattle.rounding.specs.Up.{ceil_div}
use Rattle.standard.specs.Stretch.{Stretch, start_of, read_in, exact_in, holds, segment, reading_at, exact_reading_at, greatest, exact_greatest}
use Rattle.standard.proofs.Runs.{Readable, outside, reads_less, exact_less, greatest_most, exact_greatest_most}
use Rattle.turned_roofs.specs.Mirror.{Mirror, MirrorRun}
use Rattle.turned_roofs.specs.OtherEnd.{segment_from_end}

-- the line over a length x + y, from either end
reading_mirrored : (g F T x y : ℕ) → reading g F T (x + y) x ≡ reading g T F (x + y) y
unfolding reading
reading_mirrored g F T x y =
    let a : x + y - x ≡ y = omega arith in
    let b : x + y - y ≡ x = omega arith in
    rw (a, b) (ap (λ (z : ℕ). ceil_div z (g * (x + y))) (omega arith))

line_mirrored : (e f : Fraction) (x y : ℕ) → line e f (x + y) x ≡ line f e (x + y) y
unfolding line
line_mirrored e f x y =
    let a : x + y - x ≡ y = omega arith in
    let b : x + y - y ≡ x = omega arith in
    let c : e.num * f.den * y + f.num * e.den * x ≡ f.num * e.den * x + e.num * f.den * y = omega arith in
    let d : e.den * f.den * (x + y) ≡ f.den * e.den * (x + y) = omega arith in
    rw (a, b, c, d)

-- x into a stretch from the left is y into it from the right
module _ (s t : Stretch) (m : Mirror s t) (x y : ℕ) (h : x + y ≡ s.extent) where
  whole_ramp : s.full ≡ s.skip + x + (t.skip + y)
  whole_ramp = omega (arith, m.skips)

  read_mirrored : (g : ℕ) → read_in g s x ≡ read_in g t y
  unfolding read_in
  read_mirrored g = rw (← m.full, ← m.from, ← m.to, whole_ramp) (reading_mirrored g _ _ (s.skip + x) (t.skip + y))

  exact_mirrored : exact_in s x ≡ exact_in t y
  unfolding exact_in
  exact_mirrored = rw (← m.full, ← m.from, ← m.to, whole_ramp) (line_mirrored _ _ (s.skip + x) (t.skip + y))

module _ (S T : ℕ → Stretch) (n : ℕ) (m : MirrorRun S T n) where
  -- the first i stretches from the left and the first j from the right are all of them
  starts : (j i : ℕ) → i + j ≡ n → start_of S i + start_of T j ≡ start_of S n
  unfolding start_of
  starts zero i h = let e : i ≡ n = omega arith in rw e (omega arith)
  starts (suc j) i h = omega (arith, starts j (suc i) (omega arith), (m.each i j (omega arith)).extent)

  same_sum : start_of T n ≡ start_of S n
  unfolding start_of
  same_sum = omega (arith, starts n 0 (omega arith))

  module _ (p q : ℕ) (e : p + q ≡ start_of S n) (i j : ℕ) (h : suc (i + j) ≡ n) where
    before_and_behind : start_of S i + (S i).extent + start_of T j ≡ p + q
    unfolding start_of
    before_and_behind = omega (arith, starts j (suc i) (omega arith))

    same_extent : (S i).extent ≡ (T j).extent
    same_extent = (m.each i j h).extent

    there : start_of S i ≤ p → p ≤ start_of S i + (S i).extent → p - start_of S i + (q - start_of T j) ≡ (S i).extent
    there a b = omega (arith, before_and_behind)

    -- where either holds its station, so does the other
    module _ {A : Type 0} (a b none : A) (r : start_of S i ≤ p → p ≤ start_of S i + (S i).extent → a ≡ b) where
      at_mirrored :
          (c d : Bool) → holds (start_of S i) (S i).extent p ≡ c → holds (start_of T j) (T j).extent q ≡ d → cond c a none ≡ cond d b none
      unfolding holds
      at_mirrored true true u v = let w = within_in _ _ p u in r w.0 w.1
      at_mirrored false false u v = refl
      at_mirrored true false u v =
          let w = within_in _ _ p u in
          absurd (outside _ _ q v (omega (arith, w, before_and_behind, same_extent)) (omega (arith, w, before_and_behind, same_extent)))
      at_mirrored false true u v =
          let w = within_in _ _ q v in
          absurd (outside _ _ p u (omega (arith, w, before_and_behind, same_extent)) (omega (arith, w, before_and_behind, same_extent)))

    reading_at_mirrored : (g : ℕ) → reading_at g S p i ≡ reading_at g T q j
    unfolding reading_at
    reading_at_mirrored g = at_mirrored _ _ 0 (λ a b. read_mirrored (S i) (T j) (m.each i j h) _ _ (there a b) g) _ _ refl refl

    exact_reading_at_mirrored : exact_reading_at S p i ≡ exact_reading_at T q j
    unfolding exact_reading_at
    exact_reading_at_mirrored = at_mirrored _ _ (over 0 1) (λ a b. exact_mirrored (S i) (T j) (m.each i j h) _ _ (there a b)) _ _ refl refl

four :
    (a b c d a' b' c' d' : ℕ) → a ≡ a' → b ≡ b' → c ≡ c' → d ≡ d'
    → ◌≡◌ {A = List ℕ} (a ∷ b ∷ c ∷ d ∷ []) (a' ∷ b' ∷ c' ∷ d' ∷ [])
four a b c d a' b' c' d' p q r s = rw (p, q, r, s)

-- a segment is the same from either end
module _ (S T : ℕ → Stretch) (n : ℕ) (m : MirrorRun S T n) (g i j : ℕ) (h : suc (i + j) ≡ n) where
  pub segment_mirrored : (end : ℕ) → start_of S n ≡ end → segment g T j ≡ segment_from_end end g S i
  unfolding segment segment_from_end start_of
  segment_mirrored end e =
      let k = m.each i j h in
      let a : start_of S i + (S i).extent + start_of T j ≡ end = omega (arith, starts S T n m j (suc i) (omega arith)) in
      four _ _ _ _ _ _ _ _ (omega (arith, a)) (omega (arith, a, k.extent))
      (sym (read_mirrored (S i) (T j) k (S i).extent 0 (omega arith) g))
      (sym (read_mirrored (S i) (T j) k 0 (T j).extent (omega (arith, k.extent)) g))

-- the mirror of a mirror is the first
mirror_back : (s t : Stretch) → Mirror s t → Mirror t s
mirror_back s t m =
    record { extent = sym m.extent; full = sym m.full; skips = omega (arith, m.skips, m.extent, m.full); from = sym m.to; to = sym m.from }

run_back : (S T : ℕ → Stretch) (n : ℕ) → MirrorRun S T n → MirrorRun T S n
run_back S T n m = record { each = λ i j h. mirror_back (S j) (T i) (m.each j i (omega arith)) }

greatest_no_more : (S T : ℕ → Stretch) (n p q g : ℕ) → MirrorRun S T n → p + q ≡ start_of S n → greatest g S p n ≤ greatest g T q n
greatest_no_more S T n p q g m e =
    greatest_most S p g n (greatest g T q n)
    (λ i b. rw (reading_at_mirrored S T n m p q e i (n - suc i) (omega arith) g) (reads_less T q g n (n - suc i) (omega arith)))

exact_no_more :
    (S T : ℕ → Stretch) (n p q : ℕ) → MirrorRun S T n → ((i : ℕ) → i < n → Readable (T i)) → p + q ≡ start_of S n
    → Below (exact_greatest S p n) (exact_greatest T q n)
exact_no_more S T n p q m f e =
    exact_greatest_most S p n (exact_greatest T q n)
    (λ i b. rw (exact_reading_at_mirrored S T n m p q e i (n - suc i) (omega arith)) (exact_less T q n (n - suc i) f (omega arith)))

-- a stretch fit to be read is so from its other end
mirror_readable : (s t : Stretch) → Mirror s t → Readable s → Readable t
mirror_readable s t m f =
    record {
      some = omega (arith, f.some, m.extent);
      inside = omega (arith, m.skips, m.extent, m.full);
      from_positive = rw (← m.to) f.to_positive;
      to_positive = rw (← m.from) f.from_positive;
    }

module _ (S T : ℕ → Stretch) (n p q : ℕ) (m : MirrorRun S T n) (e : p + q ≡ start_of S n) where
  from_the_right : q + p ≡ start_of T n
  from_the_right = omega (arith, same_sum S T n m)

  pub greatest_mirrored : (g : ℕ) → greatest g S p n ≡ greatest g T q n
  greatest_mirrored g = omega (arith, greatest_no_more S T n p q g m e, greatest_no_more T S n q p g (run_back S T n m) from_the_right)

  pub exact_greatest_mirrored : ((i : ℕ) → i < n → Readable (S i)) → Same (exact_greatest S p n) (exact_greatest T q n)
  unfolding Same Below
  exact_greatest_mirrored f =
      let k : (j : ℕ) → j < n → Readable (T j) =
      λ j b. mirror_readable (S (n - suc j)) (T j) (m.each (n - suc j) j (omega arith)) (f (n - suc j) (omega arith)) in
      omega (arith, exact_no_more S T n p q m k e, exact_no_more T S n q p (run_back S T n m) f from_the_right)
