-- Loads at most d above others: lines between them lie at most d above the others' lines, and whole numbers read between them at most d,
-- rounded up, above theirs.
use mathlib.Core.Path.{ap, subst}
use Prim.Native.Nat.{ℕ, ◌+◌, ◌-◌, ◌*◌, ◌≤◌, ◌<◌}
use native.Mathlib.Nat.{mul-le-mul_left, mul-le-mul_right, le_of_mul-le-mul_right, mul-pos, mul_comm, sub-add_cancel}
use native.Mathlib.Omega.{arith}
use Rattle.rounding.specs.Fraction.{Fraction, UnderParts, Below, Same, over, sum}
use Rattle.rounding.specs.Load.{Load, Positive, exact, break_load}
use Rattle.rounding.specs.Ramp.{line, reading}
use Rattle.rounding.specs.Up.{rounded_up}
use Rattle.rounding.proofs.Limited.{below_refl, below_trans}
use Rattle.rounding.proofs.Rounding.{least, reaches, up_close, up_least, up_mono}
use Rattle.moved_pitches.specs.Apart.{AtMostAbove, ReadingsApart, WholeApart}

sum_up : (d e f : Fraction) → Below e f → Below (sum e d) (sum f d)
unfolding sum Below
sum_up d e f p = omega (arith, mul-le-mul_right (d.den * d.den) p)

pub above_below : (d e f g : Fraction) → 0 < f.den → 0 < d.den → AtMostAbove d e f → Below f g → AtMostAbove d e g
unfolding AtMostAbove sum
above_below d e f g hf hd p q = below_trans e (sum f d) (sum g d) (mul-pos hf hd) p (sum_up d f g q)

pub above_refl : (d e : Fraction) → AtMostAbove d e e
unfolding AtMostAbove Below sum
above_refl d e = omega arith

-- two coefficients m / c and n / c
pub over_above :
    (d e f : Fraction) (m n c : ℕ) → 0 < c → Same e (over m c) → Same f (over n c) → m * d.den ≤ n * d.den + d.num * c → AtMostAbove d e f
unfolding AtMostAbove Below Same sum
over_above d e f m n c h p q b =
    let s : e.num * (f.den * d.den) * c ≤ (f.num * d.den + d.num * f.den) * e.den * c =
    omega (arith, mul-le-mul_right (e.den * f.den) b, ap (λ (z : ℕ). z * (f.den * d.den)) p, ap (λ (z : ℕ). z * (e.den * d.den)) q) in
    le_of_mul-le-mul_right s h

-- The line over a length x + y, y along it: each end's share, the two together, and both times the length.
share : (n a b x N A B k l : ℕ) → n * (A * l) ≤ (N * l + k * A) * a → n * b * x * (A * B * l) ≤ (N * B * x * l + k * (A * B * x)) * (a * b)
share n a b x N A B k l p = omega (arith, mul-le-mul_right (b * B * x) p)

together :
    (F G F' G' D E k l x y : ℕ) → F * (D * l) ≤ (G * l + k * (D * x)) * E → F' * (D * l) ≤ (G' * l + k * (D * y)) * E
    → (F + F') * (D * l) ≤ ((G + G') * l + k * (D * (x + y))) * E
together F G F' G' D E k l x y p q = omega arith

lengthened : (F G D E l k L : ℕ) → F * (D * l) ≤ (G * l + k * (D * L)) * E → F * (D * L * l) ≤ (G * l + k * (D * L)) * (E * L)
lengthened F G D E l k L p = omega (arith, mul-le-mul_right L p)

line_above :
    (d e f e' f' : Fraction) (full x : ℕ) → x ≤ full → AtMostAbove d e e' → AtMostAbove d f f'
    → AtMostAbove d (line e f full x) (line e' f' full x)
unfolding AtMostAbove Below sum line
line_above d e f e' f' full x hx p q =
    lengthened _ _ _ _ d.den d.num full
    (subst
    (λ (z : ℕ). (e.num * f.den * (full - x) + f.num * e.den * x) * (e'.den * f'.den * d.den)
    ≤ ((e'.num * f'.den * (full - x) + f'.num * e'.den * x) * d.den + d.num * (e'.den * f'.den * z)) * (e.den * f.den))
    (sub-add_cancel hx)
    (together _ _ _ _ (e'.den * f'.den) (e.den * f.den) d.num d.den (full - x) x
    (share e.num e.den f.den (full - x) e'.num e'.den f'.den d.num d.den p)
    (rw (mul_comm e'.den f'.den, mul_comm e.den f.den) (share f.num f.den e.den x f'.num f'.den e'.den d.num d.den q))))

-- a load whose first part is at most d above another's, and whose second part is no more
pub record LoadsAbove (d : Fraction) (l m : Load) : Type 0 where
  pub first : AtMostAbove d l.first m.first
  pub second : Below l.second m.second

pub loads_refl : (d : Fraction) (l : Load) → LoadsAbove d l l
loads_refl d l = record { first = above_refl d l.first; second = below_refl l.second }

exact_above : (d : Fraction) (l m : Load) → LoadsAbove d l m → AtMostAbove d (exact l) (exact m)
unfolding AtMostAbove Below exact sum
exact_above d l m a =
    omega (arith, mul-le-mul_right (l.second.den * m.second.den) a.first, mul-le-mul_right (l.first.den * m.first.den * d.den) a.second)

pub lines_above :
    (d : Fraction) (l m l' m' : Load) (full x : ℕ) → x ≤ full → LoadsAbove d l l' → LoadsAbove d m m'
    → AtMostAbove d (line (exact l) (exact m) full x) (line (exact l') (exact m') full x)
lines_above d l m l' m' full x h a b = line_above d (exact l) (exact m) (exact l') (exact m') full x h (exact_above d l l' a) (exact_above d m m' b)

-- in parts, g to the N/m²
up_above : (g : ℕ) (d e f : Fraction) → 0 < d.den → 0 < e.den → 0 < f.den → AtMostAbove d e f → rounded_up g e ≤ rounded_up g f + rounded_up g d
unfolding AtMostAbove Below sum
up_above g d e f hd he hf p =
    let F = rounded_up g f in
    let D = rounded_up g d in
    let s : g * e.num * (f.den * d.den) ≤ (F + D) * e.den * (f.den * d.den) =
    omega (
      arith,
      mul-le-mul_left g p,
      mul-le-mul_right (d.den * e.den) (up_close g f hf).low,
      mul-le-mul_right (f.den * e.den) (up_close g d hd).low,
    ) in
    up_least g (F + D) e he (le_of_mul-le-mul_right s (mul-pos hf hd))

break_above :
    (g : ℕ) (d : Fraction) (l m : Load) → 0 < d.den → Positive l → Positive m → LoadsAbove d l m → break_load g l ≤ break_load g m + rounded_up g d
unfolding break_load
break_above g d l m hd p q a =
    omega (arith, up_above g d l.first m.first hd p.first q.first a.first, up_mono g l.second m.second p.second q.second a.second)

-- D more at both ends is D more all along, which is at most D parts, rounded up to a whole N/m², in what is read
reading_above :
    (g F T G U D k full x : ℕ) → 0 < g → 0 < full → x ≤ full → F ≤ G + D → T ≤ U + D → D ≤ g * k
    → reading g F T full x ≤ reading g G U full x + k
unfolding reading
reading_above g F T G U D k full x hg hf hx p q b =
    let h = mul-pos hg hf in
    least (F * (full - x) + T * x) (g * full) _ h
    (omega (
      arith,
      reaches (G * (full - x) + U * x) (g * full) h,
      mul-le-mul_right (full - x) p,
      mul-le-mul_right x q,
      mul-le-mul_right full b,
      ap (λ (z : ℕ). D * z) (sub-add_cancel hx),
    ))

pub readings_above :
    (g : ℕ) (d : Fraction) (l m l' m' : Load) (full x : ℕ) → 0 < g → 0 < d.den → Positive l → Positive m → Positive l' → Positive m'
    → 0 < full → x ≤ full → LoadsAbove d l l' → LoadsAbove d m m'
    → reading g (break_load g l) (break_load g m) full x ≤ reading g (break_load g l') (break_load g m') full x + rounded_up 1 d
readings_above g d l m l' m' full x hg hd p q p' q' hf hx a b =
    reading_above g _ _ _ _ (rounded_up g d) (rounded_up 1 d) full x hg hf hx (break_above g d l l' hd p p' a) (break_above g d m m' hd q q' b)
    (up_least g (g * rounded_up 1 d) d hd (omega (arith, mul-le-mul_left g (up_close 1 d hd).low)))

-- d rounded up is less than d + 1, so what is at most so far apart is less than d + 1.2 apart
pub whole_apart : (d : Fraction) (r s : ℕ) → 0 < d.den → WholeApart d r s → ReadingsApart d r s
unfolding UnderParts sum
whole_apart d r s h w =
    record {
      up = omega (arith, (up_close 1 d h).high, mul-le-mul_right d.den w.up);
      down = omega (arith, (up_close 1 d h).high, mul-le-mul_right d.den w.down);
    }
