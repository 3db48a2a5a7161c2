-- How far a break's load and a ramp's reading lie above the exact ones, how they rise, and where they end.
use mathlib.Core.Path.{◌≡◌, refl, ap, subst}
use Prim.Native.Nat.{ℕ, ◌+◌, ◌-◌, ◌*◌, ◌≤◌, ◌<◌}
use native.Mathlib.Nat.{le_of_lt, le_of_mul-le-mul_left, mul-le-mul_left, mul-le-mul_right, mul-lt-mul_of_pos_right, mul-pos, sub-add_cancel}
use native.Mathlib.Omega.{arith}
use Rattle.rounding.specs.Fraction.{Fraction, AtMost, UnderParts, Below, Close, Near, over, sum}
use Rattle.rounding.specs.Load.{Load, Positive, alone, exact, break_load}
use Rattle.rounding.specs.Ramp.{line, reading}
use Rattle.rounding.specs.Up.{ceil_div, rounded_up}
use Rattle.rounding.proofs.Rounding.{reaches, near, least, mono, cross, same_factor, up_close, up_least, up_mono, up_nothing, up_twice}

-- Figures. Each part of a load is rounded by itself: two halves come to two.
pub two_halves : break_load 1 (record { first = over 1 2; second = over 1 2 }) ≡ 2
unfolding break_load exact sum rounded_up ceil_div
two_halves = refl

-- Each part counts once: one and two come to three.
pub one_and_two : break_load 1 (record { first = over 1 1; second = over 2 1 }) ≡ 3
unfolding break_load exact sum rounded_up ceil_div
one_and_two = refl

-- A reading is rounded up: half_way from 0 to 1 it is 1.
pub half_way : reading 1 0 1 2 1 ≡ 1
unfolding reading ceil_div
half_way = refl

-- In tenths each part is rounded up to a tenth: two thirds of a N/m² in two parts are 0.8, of which 0.1 is rounding.
pub two_thirds : break_load 10 (record { first = over 1 3; second = over 1 3 }) ≡ 8
unfolding break_load exact sum rounded_up ceil_div
two_thirds = refl

-- A reading is rounded up to the whole at the end alone: a quarter of the way from 1.1 to 0 it is 1, and from 2 to 0 it would be 2.
pub quarter_way : reading 10 11 0 4 1 ≡ 1
unfolding reading ceil_div
quarter_way = refl

-- Errors add.
sum_close : {g k l r s : ℕ} {e f : Fraction} → Close g k r e → Close g l s f → 0 < e.den → 0 < f.den → Close g (k + l) (r + s) (sum e f)
unfolding sum
sum_close {e = e} {f = f} p q he hf =
    record {
      low = omega (arith, mul-le-mul_right f.den p.low, mul-le-mul_right e.den q.low);
      high = omega (arith, mul-lt-mul_of_pos_right p.high hf, mul-lt-mul_of_pos_right q.high he);
    }

pub exact_positive : (l : Load) → Positive l → 0 < (exact l).den
unfolding exact sum
exact_positive l h = mul-pos h.first h.second

-- A load of one part is that part rounded up.
pub break_alone : (g : ℕ) (f : Fraction) → break_load g (alone f) ≡ rounded_up g f
unfolding break_load
break_alone g f = omega (arith, up_nothing g)

-- Rounded up to a whole number from whatever parts, it is that part rounded up to a whole number.
pub alone_whole : (g : ℕ) (f : Fraction) → 0 < g → 0 < f.den → ceil_div (break_load g (alone f)) g ≡ rounded_up 1 f
alone_whole g f hg h = rw (break_alone g f) (up_twice g f hg h)

pub break_close : (g : ℕ) (l : Load) → Positive l → Close g 2 (break_load g l) (exact l)
unfolding break_load exact
break_close g l h = sum_close (up_close g l.first h.first) (up_close g l.second h.second) h.first h.second

pub break_mono :
    (g : ℕ) (l l' : Load) → Positive l → Positive l' → Below l.first l'.first → Below l.second l'.second
    → break_load g l ≤ break_load g l'
unfolding break_load
break_mono g l l' h h' p q =
    omega (arith, up_mono g l.first l'.first h.first h'.first p, up_mono g l.second l'.second h.second h'.second q)

-- The line over a length x + y, y along it, rounded up to r. Each end's error is weighed as its load is, so the line's is no larger:
-- k parts; and rounding up to a whole number adds less than g parts.
module _ (g a b n m d e x y r : ℕ) where
  line_low : 0 < g → g * n ≤ a * d → g * m ≤ b * e → a * x + b * y ≤ r * (g * (x + y)) → n * e * x + m * d * y ≤ r * (d * e * (x + y))
  line_low hg p q h =
      let s : g * (n * e * x + m * d * y) ≤ g * (r * (d * e * (x + y))) =
      omega (arith, mul-le-mul_right (e * x) p, mul-le-mul_right (d * y) q, mul-le-mul_right (d * e) h) in
      le_of_mul-le-mul_left s hg

  line_high :
      (k : ℕ) → 0 < d → 0 < e → a * d < g * n + k * d → b * e < g * m + k * e → r * (g * (x + y)) < a * x + b * y + g * (x + y)
      → g * r * (d * e * (x + y)) < g * (n * e * x + m * d * y) + (g + k) * (d * e * (x + y))
  line_high k hd he p q h =
      let s : (a * x + b * y) * (d * e) ≤ g * (n * e * x + m * d * y) + k * (d * e * (x + y)) =
      omega (arith, mul-le-mul_right (e * x) (le_of_lt p), mul-le-mul_right (d * y) (le_of_lt q)) in
      let t : r * (g * (x + y)) * (d * e) < (a * x + b * y + g * (x + y)) * (d * e) = mul-lt-mul_of_pos_right h (mul-pos hd he) in
      omega arith

-- In the exact line's denominator alone, the full length is put for the sum of its two parts.
reading_near :
    {g k F T : ℕ} {e f : Fraction} (full x : ℕ) → 0 < g → Close g k F e → Close g k T f → 0 < e.den → 0 < f.den → 0 < full → x ≤ full
    → Near g (g + k) (reading g F T full x) (line e f full x)
unfolding reading line AtMost UnderParts
reading_near {g} {k} {F} {T} {e} {f} full x hg p q he hf h hx =
    let n = F * (full - x) + T * x in
    let h_l = mul-pos hg h in
    subst (λ (z : ℕ). Near g (g + k) (reading g F T full x) (over (e.num * f.den * (full - x) + f.num * e.den * x) (e.den * f.den * z)))
    (sub-add_cancel hx)
    (record {
      positive = rw (sub-add_cancel hx) (mul-pos (mul-pos he hf) h);
      low = line_low g F T _ _ _ _ (full - x) x _ hg p.low q.low (rw (sub-add_cancel hx) (reaches n (g * full) h_l));
      high = line_high g F T _ _ _ _ (full - x) x _ k he hf p.high q.high (rw (sub-add_cancel hx) (near n (g * full) h_l));
    })

pub ramp_near :
    (g : ℕ) (from to : Load) (full x : ℕ) → 0 < g → Positive from → Positive to → 0 < full → x ≤ full
    → Near g (g + 2) (reading g (break_load g from) (break_load g to) full x) (line (exact from) (exact to) full x)
ramp_near g from to full x hg p q h hx =
    reading_near full x hg (break_close g from p) (break_close g to q) (exact_positive from p) (exact_positive to q) h hx

reading_mono : (g : ℕ) {F F' T T' : ℕ} (full x : ℕ) → 0 < g → F ≤ F' → T ≤ T' → 0 < full → reading g F T full x ≤ reading g F' T' full x
unfolding reading
reading_mono g full x hg p q h = mono _ _ (g * full) (mul-pos hg h) (omega (arith, mul-le-mul_right (full - x) p, mul-le-mul_right x q))

pub ramp_mono :
    (g : ℕ) (from to from' to' : Load) (full x : ℕ) → 0 < g → Positive from → Positive to → Positive from' → Positive to'
    → Below from.first from'.first → Below from.second from'.second → Below to.first to'.first → Below to.second to'.second
    → 0 < full → reading g (break_load g from) (break_load g to) full x ≤ reading g (break_load g from') (break_load g to') full x
ramp_mono g from to from' to' full x hg p q p' q' a b c d h =
    reading_mono g full x hg (break_mono g from from' p p' a b) (break_mono g to to' q q' c d) h

-- Finer parts: h times as many parts of a load are at most h times its parts, so that no reading rises.
up_finer : (g h : ℕ) (f : Fraction) → 0 < f.den → rounded_up (g * h) f ≤ h * rounded_up g f
up_finer g h f p = up_least (g * h) (h * rounded_up g f) f p (omega (arith, mul-le-mul_left h (up_close g f p).low))

break_finer : (g h : ℕ) (l : Load) → Positive l → break_load (g * h) l ≤ h * break_load g l
unfolding break_load
break_finer g h l p = omega (arith, up_finer g h l.first p.first, up_finer g h l.second p.second)

reading_finer :
    (g h F T F' T' full x : ℕ) → 0 < g → 0 < h → 0 < full → F' ≤ h * F → T' ≤ h * T → reading (g * h) F' T' full x ≤ reading g F T full x
unfolding reading
reading_finer g h F T F' T' full x hg hh hf p q =
    cross _ (g * h * full) _ (g * full) (mul-pos (mul-pos hg hh) hf) (mul-pos hg hf)
    (omega (arith, mul-le-mul_right ((full - x) * (g * full)) p, mul-le-mul_right (x * (g * full)) q))

pub ramp_finer :
    (g h : ℕ) (from to : Load) (full x : ℕ) → 0 < g → 0 < h → 0 < full → Positive from → Positive to
    → reading (g * h) (break_load (g * h) from) (break_load (g * h) to) full x ≤ reading g (break_load g from) (break_load g to) full x
ramp_finer g h from to full x hg hh hf p q =
    reading_finer g h _ _ _ _ full x hg hh hf (break_finer g h from p) (break_finer g h to q)

-- what is read at the ends of an uncut ramp, along an even one, and at most
whole_length : (g full : ℕ) → 0 < g → 0 < full → (m n : ℕ) → n ≡ m * full → ceil_div n (g * full) ≡ ceil_div m g
whole_length g full hg h m n e =
    let a : n ≡ full * m = omega arith in
    let b : g * full ≡ full * g = omega arith in
    rw (a, b) (same_factor full m g h hg)

pub reading_even : (g F full : ℕ) → 0 < g → 0 < full → (x : ℕ) → x ≤ full → reading g F F full x ≡ ceil_div F g
unfolding reading
reading_even g F full hg h x hx = whole_length g full hg h F _ (omega (arith, ap (λ (z : ℕ). F * z) (sub-add_cancel hx)))

module _ (g F T full : ℕ) (hg : 0 < g) (h : 0 < full) where
  pub reading_start : reading g F T full 0 ≡ ceil_div F g
  unfolding reading
  reading_start = let z : full - 0 ≡ full = omega arith in whole_length g full hg h F _ (rw z (omega arith))

  pub reading_end : reading g F T full full ≡ ceil_div T g
  unfolding reading
  reading_end = let z : full - full ≡ 0 = omega arith in whole_length g full hg h T _ (rw z (omega arith))

  pub reading_most : (x m : ℕ) → x ≤ full → F ≤ g * m → T ≤ g * m → reading g F T full x ≤ m
  unfolding reading
  reading_most x m hx p q =
      least _ (g * full) m (mul-pos hg h)
      (omega (arith, mul-le-mul_right (full - x) p, mul-le-mul_right x q, ap (λ (z : ℕ). g * m * z) (sub-add_cancel hx)))

-- A load of one part along an even stretch is the smallest whole number not below it, in whatever parts it is counted.
pub even_whole :
    (g : ℕ) (f : Fraction) (full x : ℕ) → 0 < g → 0 < f.den → 0 < full → x ≤ full
    → reading g (break_load g (alone f)) (break_load g (alone f)) full x ≡ rounded_up 1 f
even_whole g f full x hg hd h hx = rw (reading_even g (break_load g (alone f)) full hg h x hx) (alone_whole g f hg hd)
