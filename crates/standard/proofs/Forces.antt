-- What is owed on the local forces: their distance from the rules over the unrounded S and the sine's reference.
use Prim.Native.Nat.{ℕ, ◌+◌, ◌-◌, ◌*◌, ◌≤◌, ◌<◌, min}
use mathlib.Core.Path.{◌≡◌, refl, sym, subst, ◌∙◌}
use mathlib.Core.Bool.{Bool, true, false, cond, ◌&&◌}
use mathlib.Core.List.{List}
use Rattle.std.specs.Prelude.{Option, Some, None, is_some}
use borrow.Author.Tests.{eqb-true}
use lib.Dec.{ltb, eqb}
use native.Mathlib.Decide.{dec_le}
use native.Mathlib.Nat.{add-sub_of_le, mul-pos, le_of_lt, min-eq_left, min-eq_right}
use native.Mathlib.Nat.{mul-le-mul, mul-le-mul_left, mul-le-mul_right, mul-lt-mul_of_pos_right, le_of_mul-le-mul_right}
use native.Mathlib.Omega.{arith}
use Rattle.figures.specs.Bounds.{SiteIn}
use Rattle.figures.specs.Refusals.{figures_refusal}
use Rattle.figures.specs.RoofRules.{roof_refusal}
use Rattle.figures.specs.SiteRules.{site_refusal}
use Rattle.figures.specs.declared.site.Site.{Site}
use Rattle.figures.specs.declared.slopes.Slope.{Slope}
use Rattle.figures.specs.declared.slopes.GuardedSlope.{GuardedSlope}
use Rattle.figures.specs.declared.roof.Shape.{Shape}
use Rattle.figures.specs.declared.roof.Shape.TheVariants.{Pitched}
use Rattle.figures.specs.declared.roof.Roof.{Roof}
use Rattle.figures.proofs.Accepted.{site_in}
use Rattle.figures.proofs.Sides.{side_in}
use Rattle.figures.proofs.Stores.{accepted}
use Rattle.rounding.specs.Fraction.{Fraction, over, sum, AtMost, Under, UnderParts, Below, Same, Near}
use Rattle.rounding.specs.Load.{alone, exact, break_load}
use Rattle.rounding.specs.Limit.{smaller, larger}
use Rattle.rounding.specs.Up.{ceil_div, rounded_up}
use Rattle.rounding.proofs.Rounding.{reaches, near, least, whole, close_whole, up_close, up_least, up_whole}
use Rattle.rounding.proofs.Distance.{near_nothing, near_larger}
use Rattle.rounding.proofs.Ramps.{break_alone}
use Rattle.rounding.proofs.Limited.{smaller_is, smaller_mono, smaller_positive}
use Rattle.standard.specs.Arrangements.{factor_of}
use Rattle.standard.specs.Coefficients.{mu1, guarded, slope_mu}
use Rattle.figures.specs.Slopes.{slope_at}
use Rattle.standard.specs.Forces.{slope_load, whole_load, force, none, refused}
use Rattle.standard.specs.Forces.{unrounded_at, whole_at, larger_unrounded, larger_whole}
use Rattle.standard.specs.Forces.{OverhangNear, overhang_rule, overhang_force, overhang_at, overhang_answer, overhang_distance}
use Rattle.standard.specs.Forces.{GuardNear, guard_rule, guard_force, guard_at, guard_answer, guard_distance}
use Rattle.standard.specs.Sine.{sine_reference, sine_entry}
use Rattle.standard.specs.Pitched.{slope_stretch}
use Rattle.standard.specs.Stretch.{load, read_in}
use Rattle.standard.specs.Numerators.{mu1_num, slope_num}
use Rattle.standard.proofs.Numerators.{slope_mu_positive, slope_mu_is}
use Rattle.standard.proofs.Loads.{load_positive}
use Rattle.standard.proofs.Runs.{even_in}
use Rattle.standard.proofs.Sine.{sine_nearest, sine_most}

-- S is at most 24,000: μ1 at most 0.8, Ce at most 1.2, Ct at most 1, sk at most 25,000
pub mu_most : (slope : Slope) (guard : ℕ) → guard ≤ 1 → 375 * (slope_mu slope guard).num ≤ 300 * (slope_mu slope guard).den
unfolding slope_num mu1_num Same
mu_most slope guard h =
    let top : slope_num slope.pitch guard ≤ 300 = omega arith in
    omega (arith, slope_mu_is slope guard h, mul-le-mul_right (slope_mu slope guard).den top)

factor_most : (site : Site) → SiteIn site → factor_of site 1 ≤ 1200000
unfolding factor_of
factor_most site h = omega (arith, mul-le-mul h.ce.high h.ct.high)

load_most : (n d f s : ℕ) → 375 * n ≤ 300 * d → f ≤ 1200000 → s ≤ 25000 → n * f * s ≤ 24000 * (d * 1000000)
load_most n d f s p q r =
    let t : f * s ≤ 1200000 * 25000 = mul-le-mul q r in
    omega (arith, mul-le-mul_right 80000000 p, mul-le-mul_left n t)

-- S is whole: a load of 800.8 N/m² is 801.
pub whole_801 :
    whole_load (record { sk = 1001; ce = 100; ct = 100; cesl = 100; situation = 0; altitude = 0; day = None }) (record { pitch = 300; width = 1 }) 0 ≡ 801
unfolding whole_load slope_load factor_of guarded mu1 load break_load rounded_up ceil_div
whole_801 = refl

-- At 801 m under 1,250 N/m² 0° and 45.0° have S 1,000 and 500. Either eave has the overhang of 1,000, whichever slope is left; a third
-- slope has none. A guard keeps S at 1,000 on 45.0° beside a bare slope: its force is 1,000 × 1 m × 0.707107.
abbrev mountain : Site
mountain = record { sk = 1250; ce = 100; ct = 100; cesl = 100; situation = 0; altitude = 801; day = None }

abbrev sloping : ℕ → ℕ → ℕ → GuardedSlope
sloping pitch width guard = record { slope = record { pitch = pitch; width = width }; guard = guard }

abbrev flat_steep : Shape
flat_steep = Pitched (sloping 0 1 0) (sloping 450 1 0)

abbrev steep_flat : Shape
steep_flat = Pitched (sloping 450 1 0) (sloping 0 1 0)

abbrev bare_guarded : Shape
bare_guarded = Pitched (sloping 600 1000 0) (sloping 450 1000 1)

pub forces_worked :
    (whole_at mountain (slope_at flat_steep 1) ≡ 1000)
    × (whole_at mountain (slope_at flat_steep 2) ≡ 500)
    × Same (larger_unrounded mountain flat_steep) (over 1000 1)
    × Same (larger_unrounded mountain steep_flat) (over 1000 1)
    × (overhang_at mountain flat_steep 1 ≡ force 334)
    × (overhang_at mountain flat_steep 2 ≡ force 334)
    × (overhang_at mountain steep_flat 1 ≡ force 334)
    × (overhang_at mountain steep_flat 2 ≡ force 334)
    × (overhang_at mountain steep_flat 3 ≡ none)
    × (whole_at mountain (slope_at bare_guarded 1) ≡ 0)
    × (guard_at mountain (slope_at bare_guarded 1) ≡ none)
    × (guard_at mountain (slope_at bare_guarded 2) ≡ force 708)
    × (overhang_at mountain bare_guarded 1 ≡ force 334)
    × (overhang_at mountain bare_guarded 2 ≡ force 334)
unfolding overhang_at overhang_force overhang_rule guard_at guard_force guard_rule smaller larger larger_whole larger_unrounded unrounded_at whole_at slope_at
    whole_load slope_load factor_of guarded mu1 load break_load exact sum rounded_up ceil_div sine_entry sine_reference Same
forces_worked = (refl, refl, refl, refl, refl, refl, refl, refl, refl, refl, refl, refl, refl, refl)

alone_most : (m : ℕ) (f : Fraction) → 0 < f.den → f.num ≤ m * f.den → break_load 1 (alone f) ≤ m
alone_most m f h p = rw (break_alone 1 f) (up_least 1 m f h (omega arith))

pub whole_most : (site : Site) (slope : Slope) (guard : ℕ) → SiteIn site → guard ≤ 1 → whole_load site slope guard ≤ 24000
unfolding whole_load slope_load load
whole_most site slope guard h g =
    alone_most 24000 _ (load_positive (slope_mu slope guard) (factor_of site 1) site.sk (slope_mu_positive slope guard))
    (load_most _ _ _ _ (mu_most slope guard g) (factor_most site h) h.sk.high)

-- S is the exact load rounded up, so less than 1 above it.
alone_near : (f : Fraction) → 0 < f.den → Near 1 1 (break_load 1 (alone f)) (exact (alone f))
unfolding exact sum AtMost UnderParts
alone_near f h =
    let c = up_close 1 f h in
    rw (break_alone 1 f) (record { positive = omega arith; low = omega (arith, c.low); high = omega (arith, c.high) })

module _ (site : Site) where
  pub whole_near : (slope : Slope) (guard : ℕ) → Near 1 1 (whole_load site slope guard) (exact (slope_load site slope guard))
  unfolding whole_load slope_load
  whole_near slope guard = alone_near _ (load_positive (slope_mu slope guard) (factor_of site 1) site.sk (slope_mu_positive slope guard))

  at_near : (at : Option GuardedSlope) → Near 1 1 (whole_at site at) (unrounded_at site at)
  unfolding whole_at unrounded_at
  at_near None = near_nothing 1 1 (omega arith)
  at_near (Some slope) = whole_near slope.slope slope.guard

  -- The larger whole S is so above the larger unrounded S.
  pub larger_near : (shape : Shape) → Near 1 1 (larger_whole site shape) (larger_unrounded site shape)
  unfolding larger_whole larger_unrounded
  larger_near shape = near_larger 1 1 _ _ _ _ (at_near (slope_at shape 1)) (at_near (slope_at shape 2))

-- "S is the slope's code 1 load": what is returned for the slope in that code is S, in whatever parts it is worked.
pub returned_is_whole :
    (g : ℕ) (site : Site) (slope : Slope) (guard x : ℕ) → 0 < g → 0 < slope.width → x ≤ 4 * slope.width
    → read_in g (slope_stretch (factor_of site 1) site.sk slope guard false) x ≡ whole_load site slope guard
unfolding whole_load slope_load
returned_is_whole g site slope guard x hg hw hx =
    let f = load (slope_mu slope guard) (factor_of site 1) site.sk in
    let h = load_positive (slope_mu slope guard) (factor_of site 1) site.sk (slope_mu_positive slope guard) in
    even_in g (4 * slope.width) x f hg h (omega arith) hx ∙ sym (break_alone 1 f)

-- 3S is whole, so the limit is put on the rounded figure as well as on the exact one.
pub overhang_is : (s : ℕ) → overhang_force s ≡ min (3 * s) (ceil_div (s * s * s) 3000000)
unfolding overhang_force overhang_rule rounded_up Below
overhang_is s =
    smaller_is (λ f. ceil_div (1 * f.num) f.den ≡ min (3 * s) (ceil_div (s * s * s) 3000000)) _ _
    (λ p.
    let t : ceil_div (1 * (3 * s)) 1 ≡ 3 * s = whole (1 * (3 * s)) 1 (3 * s) (omega arith) (omega arith) in
    let r : 3 * s * 3000000 ≤ ceil_div (s * s * s) 3000000 * 3000000 = omega (arith, reaches (s * s * s) 3000000 (omega arith)) in
    rw t (sym (min-eq_left (le_of_mul-le-mul_right r (omega arith)))))
    (λ p.
    let t : 1 * (s * s * s) ≡ s * s * s = omega arith in
    rw t (sym (min-eq_right (least (s * s * s) 3000000 (3 * s) (omega arith) (omega arith)))))

-- The cube of a, where a is at most d above n, is at most 3a²d above the cube of n.
cube_over : (n t d : ℕ) → t ≤ d → (n + t) * (n + t) * (n + t) ≤ n * n * n + 3 * ((n + t) * (n + t)) * d
cube_over n t d h = omega (arith, mul-le-mul_right (n * n) h, mul-le-mul_right (n * t) h, mul-le-mul_right (t * t) h)

cube_rise : (n a d : ℕ) → n ≤ a → a ≤ n + d → a * a * a ≤ n * n * n + 3 * (a * a) * d
cube_rise n a d p q =
    subst (λ (z : ℕ). z * z * z ≤ n * n * n + 3 * (z * z) * d) (add-sub_of_le p) (cube_over n (a - n) d (omega arith))

-- S over the unrounded n / d, and a force r over S
module _ (n d s r : ℕ) (low : n ≤ s * d) (high : s * d < n + d) where
  limit_near : r ≤ 3 * s → r * d < 3 * n + 10 * d
  limit_near p = omega (arith, mul-le-mul_right d p)

  -- Up to 3,000 the cube rises by less than 27,000,000 from n / d to S.
  cube_near_low : 0 < d → s ≤ 3000 → r * 3000000 < s * s * s + 3000000 → r * (3000000 * (d * d * d)) < n * n * n + 10 * (3000000 * (d * d * d))
  cube_near_low h p q =
      let c : s * d * (s * d) * (s * d) ≤ n * n * n + 3 * (s * d * (s * d)) * d = cube_rise n (s * d) d low (le_of_lt high) in
      let t : s * s * (d * d * d) ≤ 9000000 * (d * d * d) = mul-le-mul_right (d * d * d) (mul-le-mul p p) in
      let u : r * 3000000 * (d * d * d) < (s * s * s + 3000000) * (d * d * d) = mul-lt-mul_of_pos_right q (mul-pos (mul-pos h h) h) in
      omega arith

  -- Above it the cube's share is at least three times n / d, and the force at most 3S.
  cube_near_high : 0 < d → 3000 < s → r ≤ 3 * s → r * (3000000 * (d * d * d)) < n * n * n + 10 * (3000000 * (d * d * d))
  cube_near_high h p q =
      let a : 3000 * d ≤ n = omega (arith, mul-le-mul_right d p) in
      let b : 9000000 * (d * d) * n ≤ n * n * n = mul-le-mul_right n (omega (arith, mul-le-mul a a)) in
      let t : r * d * (d * d) ≤ 3 * s * d * (d * d) = mul-le-mul_right (d * d) (mul-le-mul_right d q) in
      let u : s * d * (d * d) < (n + d) * (d * d) = mul-lt-mul_of_pos_right high (mul-pos h h) in
      omega arith

  cube_near : 0 < d → r * 3000000 < s * s * s + 3000000 → r ≤ 3 * s → r * (3000000 * (d * d * d)) < n * n * n + 10 * (3000000 * (d * d * d))
  cube_near h q t =
      elim (dec_le s 3000) [
        | yes p ↦ cube_near_low h p q
        | no p ↦ cube_near_high h (omega arith) t
      ]

-- r over f, where r is not below g and f not above g
below_at_most : (f g : Fraction) (r : ℕ) → 0 < g.den → Below f g → AtMost g r → AtMost f r
unfolding Below AtMost
below_at_most f g r h p q =
    let t : f.num * g.den ≤ r * f.den * g.den = omega (arith, mul-le-mul_right f.den q) in
    le_of_mul-le-mul_right t h

-- the two of which the overhang is the smaller
abbrev limit : Fraction → Fraction
limit f = over (3 * f.num) f.den

abbrev cubed : Fraction → Fraction
cubed f = over (f.num * f.num * f.num) (3000000 * (f.den * f.den * f.den))

module _ (x : Fraction) (s : ℕ) (c : Near 1 1 s x) where
  s_low : x.num ≤ s * x.den
  unfolding AtMost
  s_low = c.low

  s_high : s * x.den < x.num + x.den
  unfolding UnderParts
  s_high = omega (arith, c.high)

  cubed_positive : 0 < (cubed x).den
  cubed_positive = omega (arith, mul-pos (mul-pos c.positive c.positive) c.positive)

  rule_positive : 0 < (overhang_rule x).den
  unfolding overhang_rule
  rule_positive = smaller_positive (limit x) (cubed x) c.positive cubed_positive

  whole_rule_positive : 0 < (overhang_rule (over s 1)).den
  unfolding overhang_rule
  whole_rule_positive = smaller_positive (limit (over s 1)) (cubed (over s 1)) (omega arith) (omega arith)

  rule_rises : Below (overhang_rule x) (overhang_rule (over s 1))
  unfolding overhang_rule Below
  rule_rises =
      smaller_mono (limit x) (cubed x) (limit (over s 1)) (cubed (over s 1))
      (omega (arith, s_low))
      (omega (arith, mul-le-mul (mul-le-mul s_low s_low) s_low))
      c.positive cubed_positive

  overhang_low : AtMost (overhang_rule x) (overhang_force s)
  unfolding overhang_force
  overhang_low =
      below_at_most (overhang_rule x) (overhang_rule (over s 1)) _ whole_rule_positive rule_rises
      (close_whole 1 _ (overhang_rule (over s 1)) (up_close 1 (overhang_rule (over s 1)) whole_rule_positive)).0

  overhang_high : Under (overhang_force s) (overhang_rule x) 10
  unfolding overhang_rule Under
  overhang_high =
      let r = overhang_force s in
      let m : r ≤ 3 * s = omega (arith, overhang_is s) in
      let k : r * 3000000 < s * s * s + 3000000 = omega (arith, overhang_is s, near (s * s * s) 3000000 (omega arith)) in
      smaller_is (λ f. r * f.den < f.num + 10 * f.den) (limit x) (cubed x)
      (λ p. limit_near x.num x.den s r s_low s_high m)
      (λ p. cube_near x.num x.den s r s_low s_high c.positive k m)

  pub overhang_distance_lem : OverhangNear (overhang_force s) (overhang_rule x)
  overhang_distance_lem = record { positive = rule_positive; low = overhang_low; high = overhang_high }

-- Over the unrounded n / d and the reference N / D, with S above n / d and e millionths for N / D.
module _ (n d s w e N D r : ℕ) (hd : 0 < d) (h_d : 0 < D) (hs : s ≤ 24000) (hw : w ≤ 100000) where
  slopes_snow : s * w * (d * D) ≤ 2400000000 * (d * D)
  slopes_snow = mul-le-mul_right (d * D) (mul-le-mul hs hw)

  sliding_low : n ≤ s * d → 2 * (1000000 * N) ≤ (2 * e + 1) * D → s * w * e ≤ r * 1000000000 → n * w * N < (r + 2) * (d * 1000 * D)
  sliding_low a b c =
      let p : n * (w * N) ≤ s * d * (w * N) = mul-le-mul_right (w * N) a in
      let q : 2 * (1000000 * N) * (s * w * d) ≤ (2 * e + 1) * D * (s * w * d) = mul-le-mul_right (s * w * d) b in
      let t : s * w * e * (d * D) ≤ r * 1000000000 * (d * D) = mul-le-mul_right (d * D) c in
      omega (arith, slopes_snow, mul-pos hd h_d)

  sliding_high :
      s * d < n + d → e ≤ 1000000 → 2 * (1000000 * N) ≤ (2 * e + 1) * D → 2 * e * D ≤ 2 * (1000000 * N) + D
      → r * 1000000000 < s * w * e + 1000000000
      → r * (d * 1000 * D) * 1000 < n * w * N * 1000 + (w + 3000) * (d * 1000 * D)
  sliding_high a m l b c =
      let one : 2000000 * N ≤ 2000001 * D = omega (arith, mul-le-mul_right D m) in
      let p : s * d * (w * N) ≤ (n + d) * (w * N) = mul-le-mul_right (w * N) (le_of_lt a) in
      let q : 2 * e * D * (s * w * d) ≤ (2 * (1000000 * N) + D) * (s * w * d) = mul-le-mul_right (s * w * d) b in
      let t : r * 1000000000 * (d * D) < (s * w * e + 1000000000) * (d * D) = mul-lt-mul_of_pos_right c (mul-pos hd h_d) in
      let u : 2000000 * N * (d * w) ≤ 2000001 * D * (d * w) = mul-le-mul_right (d * w) one in
      let v : w * (d * D) ≤ 100000 * (d * D) = mul-le-mul_right (d * D) hw in
      omega (arith, slopes_snow)

module _ (s width pitch : ℕ) where
  pub guard_is : guard_force s width pitch ≡ ceil_div (s * width * sine_entry pitch) 1000000000
  unfolding guard_force guard_rule
  guard_is = sym (up_whole (s * width * sine_entry pitch) 1000000000)

  module _ (hs : s ≤ 24000) (hw : width ≤ 100000) (hp : pitch ≤ 800) where
    pub guard_most : guard_force s width pitch ≤ 2400000
    guard_most =
        rw guard_is
        (least (s * width * sine_entry pitch) 1000000000 2400000 (omega arith) (mul-le-mul (mul-le-mul hs hw) (sine_most pitch hp)))

    guard_near : (x : Fraction) → Near 1 1 s x → GuardNear (guard_force s width pitch) width (guard_rule x width (sine_reference pitch))
    unfolding guard_rule
    guard_near x c =
        let h = c.positive in
        let b = sine_nearest pitch in
        let n = s * width * sine_entry pitch in
        let f = sine_reference pitch in
        let low = sliding_low x.num x.den s width (sine_entry pitch) f.num f.den (guard_force s width pitch) h b.positive hs hw in
        let high = sliding_high x.num x.den s width (sine_entry pitch) f.num f.den (guard_force s width pitch) h b.positive hs hw in
        let up : n ≤ guard_force s width pitch * 1000000000 = rw guard_is (reaches n 1000000000 (omega arith)) in
        let under : guard_force s width pitch * 1000000000 < n + 1000000000 = rw guard_is (near n 1000000000 (omega arith)) in
        record {
          positive = mul-pos (mul-pos h (omega arith)) b.positive;
          low = low (s_low x s c) b.low up;
          high = high (s_high x s c) (sine_most pitch hp) b.low b.high under;
        }

-- the theorem on the guard force, of accepted figures
module _ (site : Site) (roof : Roof) (n : ℕ) (slope : Slope) (guard : ℕ)
    (hs : site_refusal site ≡ 0) (hr : roof_refusal roof ≡ 0) (e : slope_at roof.shape n ≡ Some (record { slope = slope; guard = guard })) where
  pub guard_distance_lem :
      GuardNear (guard_force (whole_load site slope guard) slope.width slope.pitch) slope.width
      (guard_rule (exact (slope_load site slope guard)) slope.width (sine_reference slope.pitch))
  guard_distance_lem =
      let side = side_in roof n (record { slope = slope; guard = guard }) hr e in
      guard_near (whole_load site slope guard) slope.width slope.pitch
      (whole_most site slope guard (site_in site hs) side.guard) side.slope.width.high side.slope.pitch
      (exact (slope_load site slope guard)) (whole_near site slope guard)

-- the same of what the calls answer
module _ (store : List ℕ) (site : Site) (roof : Roof) (n : ℕ) where
  -- from any unrounded S that the whole S of the roof is near
  pub answers_from :
      (s : Fraction) → Near 1 1 (larger_whole site roof.shape) s → overhang_distance (overhang_answer store site roof n) s (slope_at roof.shape n)
  unfolding overhang_answer overhang_at
  answers_from s c = go (eqb (figures_refusal store site roof) 0) (slope_at roof.shape n) (ltb 800 site.altitude)
    where
      go :
          (a : Bool) (at : Option GuardedSlope) (b : Bool)
          → overhang_distance (cond a (cond (is_some at && b) (force (overhang_force (larger_whole site roof.shape))) none)
          (refused (figures_refusal store site roof))) s at
      go true (Some slope) true = overhang_distance_lem s (larger_whole site roof.shape) c
      go true (Some slope) false = tt
      go true None b = tt
      go false at b = tt

  pub overhang_answers : overhang_distance (overhang_answer store site roof n) (larger_unrounded site roof.shape) (slope_at roof.shape n)
  overhang_answers = answers_from (larger_unrounded site roof.shape) (larger_near site roof.shape)

  pub guard_answers : guard_distance (guard_answer store site roof n) site (slope_at roof.shape n)
  unfolding guard_answer guard_at
  guard_answers = go (eqb (figures_refusal store site roof) 0) (slope_at roof.shape n) refl refl
    where
      guarded :
          (b : Bool) (slope : GuardedSlope) → figures_refusal store site roof ≡ 0 → slope_at roof.shape n ≡ Some slope
          → guard_distance (cond b (force (guard_force (whole_load site slope.slope slope.guard) slope.slope.width slope.slope.pitch)) none) site (Some slope)
      guarded true slope h e = let a = accepted store site roof h in guard_distance_lem site roof n slope.slope slope.guard a.site a.roof e
      guarded false slope h e = tt

      go :
          (b : Bool) (at : Option GuardedSlope) → eqb (figures_refusal store site roof) 0 ≡ b → slope_at roof.shape n ≡ at
          → guard_distance (cond b (guard_at site at) (refused (figures_refusal store site roof))) site at
      go true None h e = tt
      go true (Some slope) h e = guarded (eqb slope.guard 1) slope (eqb-true _ 0 h) e
      go false at h e = tt
