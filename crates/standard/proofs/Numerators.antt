-- The numerators of `specs/Numerators` are those of the shape coefficients, over one denominator each.
use Prim.Native.Nat.{ℕ, ◌+◌, ◌*◌, ◌≤◌, ◌<◌, max}
use mathlib.Core.Path.{◌≡◌, refl, ap}
use mathlib.Core.Bool.{Bool, true, false, cond}
use borrow.Author.Tests.{leb-true, leb-false, ltb-true, ltb-false, eqb-true, eqb-false}
use lib.Dec.{leb, ltb, eqb}
use native.Mathlib.Nat.{mul-pos}
use native.Mathlib.Omega.{arith}
use Rattle.figures.specs.declared.slopes.Slope.{Slope}
use Rattle.rounding.specs.Fraction.{Fraction, over, sum, Same}
use Rattle.rounding.specs.Limit.{smaller}
use Rattle.rounding.specs.Up.{ceil_div, rounded_up}
use Rattle.rounding.proofs.Limited.{chosen, smaller_positive, larger_positive, smaller_over, larger_over}
use Rattle.standard.specs.Coefficients.{mu1, guarded, slope_mu, mu2, mu3, mu_wind, mu_slide, mu_projection}
use Rattle.standard.specs.Numerators.{mu1_num, slope_num, mu2_num, mu3_num, wind_num, slide_num, projection_num}
use Rattle.standard.specs.Stretch.{load}
use Rattle.figures.specs.declared.national.National.{National}

eight_tenths_lem : Same (over 8 10) (over 300 375)
unfolding Same
eight_tenths_lem = refl

pub mu1_is : (pitch : ℕ) → Same (mu1 pitch) (over (mu1_num pitch) 375)
unfolding mu1 mu1_num Same
mu1_is pitch =
    chosen (λ f. Same f (over (mu1_num pitch) 375)) _ _ (leb pitch 300)
    (λ a. let h : pitch ≤ 300 = leb-true pitch 300 a in omega arith)
    (λ a.
    let h : 300 < pitch = leb-false pitch 300 a in
    chosen (λ f. Same f (over (mu1_num pitch) 375)) _ _ (ltb pitch 600)
    (λ b. let k : pitch < 600 = ltb-true pitch 600 b in omega arith)
    (λ b. let k : 600 ≤ pitch = ltb-false pitch 600 b in omega arith))

pub mu1_positive : (pitch : ℕ) → 0 < (mu1 pitch).den
unfolding mu1
mu1_positive pitch =
    chosen (λ f. 0 < f.den) _ _ (leb pitch 300) (λ a. omega arith)
    (λ a. chosen (λ f. 0 < f.den) _ _ (ltb pitch 600) (λ b. omega arith) (λ b. omega arith))

pub slope_mu_positive : (slope : Slope) (guard : ℕ) → 0 < (slope_mu slope guard).den
unfolding guarded
slope_mu_positive slope guard =
    chosen (λ f. 0 < f.den) _ _ (eqb guard 1)
    (λ a. larger_positive (over 8 10) (mu1 slope.pitch) (omega arith) (mu1_positive slope.pitch))
    (λ a. mu1_positive slope.pitch)

pub slope_mu_is : (slope : Slope) (guard : ℕ) → guard ≤ 1 → Same (slope_mu slope guard) (over (slope_num slope.pitch guard) 375)
unfolding guarded slope_num
slope_mu_is slope guard h =
    chosen (λ f. Same f (over (slope_num slope.pitch guard) 375)) _ _ (eqb guard 1)
    (λ a.
    let g : guard ≡ 1 = eqb-true guard 1 a in
    rw g (larger_over _ _ 300 (mu1_num slope.pitch) 375 (omega arith) (mu1_positive slope.pitch) eight_tenths_lem (mu1_is slope.pitch)))
    (λ a.
    let n : guard ≡ 1 → ⊥ = eqb-false guard 1 a in
    let g : guard ≡ 0 = omega arith in
    let z : max (300 * 0) (mu1_num slope.pitch) ≡ mu1_num slope.pitch = omega arith in
    rw (g, z) (mu1_is slope.pitch))

pub mu2_positive : (twice : ℕ) → 0 < (mu2 twice).den
unfolding mu2 sum
mu2_positive twice = chosen (λ f. 0 < f.den) _ _ (leb twice 600) (λ a. omega arith) (λ a. omega arith)

pub mu2_is : (twice : ℕ) → Same (mu2 twice) (over (mu2_num twice) 750)
unfolding mu2 mu2_num sum Same
mu2_is twice =
    chosen (λ f. Same f (over (mu2_num twice) 750)) _ _ (leb twice 600)
    (λ a. let h : twice ≤ 600 = leb-true twice 600 a in omega arith)
    (λ a. let h : 600 < twice = leb-false twice 600 a in omega arith)

module _ (national : National) (rise span : ℕ) (h : 0 < span) where
  rise_positive : 0 < (sum (over 2 10) (over (10 * rise) span)).den
  unfolding sum
  rise_positive = omega arith

  pub mu3_positive : 0 < (mu3 national rise span).den
  unfolding mu3
  mu3_positive = smaller_positive (over national.arch 100) (sum (over 2 10) (over (10 * rise) span)) (omega arith) rise_positive

  upper_is : Same (over national.arch 100) (over (national.arch * span) (100 * span))
  unfolding Same
  upper_is = omega arith

  rise_is : Same (sum (over 2 10) (over (10 * rise) span)) (over (20 * span + 1000 * rise) (100 * span))
  unfolding Same sum
  rise_is = omega arith

  pub mu3_is : Same (mu3 national rise span) (over (mu3_num national rise span) (100 * span))
  unfolding mu3 mu3_num
  mu3_is = smaller_over _ _ _ _ (100 * span) (omega arith) rise_positive upper_is rise_is

module _ (national : National) (b1 b2 h sk : ℕ) (hh : 0 < h) (hs : 0 < sk) where
  widths_positive : 0 < (over (b1 + b2) (2 * h)).den
  widths_positive = omega arith

  depth_positive : 0 < (smaller (over (2 * h) sk) (over (b1 + b2) (2 * h))).den
  depth_positive = smaller_positive (over (2 * h) sk) (over (b1 + b2) (2 * h)) hs widths_positive

  high_positive : 0 < (smaller (over national.high 100) (smaller (over (2 * h) sk) (over (b1 + b2) (2 * h)))).den
  high_positive = smaller_positive (over national.high 100) _ (omega arith) depth_positive

  pub wind_positive : 0 < (mu_wind national b1 b2 h sk).den
  unfolding mu_wind
  wind_positive = larger_positive (over national.low 100) _ (omega arith) high_positive

  hundredths : (n : ℕ) → Same (over n 100) (over (2 * h * n * sk) (200 * h * sk))
  unfolding Same
  hundredths n = omega arith

  depth_is : Same (over (2 * h) sk) (over (400 * h * h) (200 * h * sk))
  unfolding Same
  depth_is = omega arith

  widths_is : Same (over (b1 + b2) (2 * h)) (over (100 * (b1 + b2) * sk) (200 * h * sk))
  unfolding Same
  widths_is = omega arith

  pub wind_is : Same (mu_wind national b1 b2 h sk) (over (wind_num national (b1 + b2) h sk) (200 * h * sk))
  unfolding mu_wind wind_num
  wind_is =
      larger_over _ _ _ _ (200 * h * sk) (omega arith) high_positive (hundredths national.low)
      (smaller_over _ _ _ _ (200 * h * sk) (omega arith) depth_positive (hundredths national.high)
      (smaller_over _ _ _ _ (200 * h * sk) hs widths_positive depth_is widths_is))

pub slide_positive : (slope : Slope) (guard ls : ℕ) → 0 < ls → 0 < (mu_slide slope guard ls).den
unfolding mu_slide
slide_positive slope guard ls h =
    chosen (λ f. 0 < f.den) _ _ (leb slope.pitch 150) (λ a. omega arith) (λ a. mul-pos (slope_mu_positive slope guard) h)

-- a coefficient of m / d, times width / ls
spread : (n e m d width ls : ℕ) → n * d ≡ m * e → n * width * (d * ls) ≡ m * width * (e * ls)
spread n e m d width ls p = omega (arith, ap (λ (z : ℕ). z * (width * ls)) p)

pub slide_is : (slope : Slope) (guard ls : ℕ) → guard ≤ 1 → Same (mu_slide slope guard ls) (over (slide_num slope guard) (375 * ls))
unfolding mu_slide slide_num Same
slide_is slope guard ls h =
    by_pitch (leb slope.pitch 150)
  where
    by_pitch :
        (b : Bool)
        → Same (cond b (over 0 1) (over ((slope_mu slope guard).num * slope.width) ((slope_mu slope guard).den * ls)))
        (over (cond b 0 (slope_num slope.pitch guard * slope.width)) (375 * ls))
    by_pitch true = omega arith
    by_pitch false = spread _ _ _ 375 slope.width ls (slope_mu_is slope guard h)

module _ (h sk : ℕ) (hs : 0 < sk) where
  limited_positive : 0 < (smaller (over 2 1) (over (2 * h) sk)).den
  limited_positive = smaller_positive (over 2 1) (over (2 * h) sk) (omega arith) hs

  pub projection_positive : 0 < (mu_projection h sk).den
  unfolding mu_projection
  projection_positive = larger_positive (over 8 10) _ (omega arith) limited_positive

  least_is : Same (over 8 10) (over (8 * sk) (10 * sk))
  unfolding Same
  least_is = omega arith

  most_is : Same (over 2 1) (over (20 * sk) (10 * sk))
  unfolding Same
  most_is = omega arith

  height_is : Same (over (2 * h) sk) (over (20 * h) (10 * sk))
  unfolding Same
  height_is = omega arith

  pub projection_is : Same (mu_projection h sk) (over (projection_num h sk) (10 * sk))
  unfolding mu_projection projection_num
  projection_is =
      larger_over _ _ _ _ (10 * sk) (omega arith) limited_positive least_is
      (smaller_over _ _ _ _ (10 * sk) (omega arith) hs most_is height_is)

-- "Multiplying a rounded μ by sk": at 30.1° and sk 1,000 the load is 798
pub exact_coefficient : rounded_up 1 (load (mu1 301) 1000000 1000) ≡ 798
unfolding mu1 load rounded_up ceil_div
exact_coefficient = refl

-- One coefficient in two forms gives one load; over a denominator that has sk in it, the load has not.
pub load_same : (mu nu : Fraction) (factor sk : ℕ) → Same mu nu → Same (load mu factor sk) (load nu factor sk)
unfolding load Same
load_same mu nu factor sk p = omega (arith, ap (λ (z : ℕ). z * (factor * sk * 1000000)) p)

pub load_without : (mu : Fraction) (m d factor sk : ℕ) → Same mu (over m (d * sk)) → Same (load mu factor sk) (over (m * factor) (d * 1000000))
unfolding load Same
load_without mu m d factor sk p = omega (arith, ap (λ (z : ℕ). z * (factor * 1000000)) p)
