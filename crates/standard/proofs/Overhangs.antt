-- What document 02, A5 says of the overhang beside its distance: on kind 3 either eave has that of the larger S, none falls, kind 2 is
-- unaffected; and a guarded slope has the larger S itself.
use Prim.Native.Nat.{ℕ, ◌*◌, ◌≤◌, ◌<◌, max}
use mathlib.Core.List.{List}
use mathlib.Core.Path.{◌≡◌, refl, ap, subst, ◌∙◌}
use mathlib.Core.Bool.{Bool, true, false, cond, ◌&&◌, ◌||◌}
use Rattle.std.specs.Prelude.{Option, Some, None, is_some}
use lib.Dec.{ltb, eqb}
use native.Mathlib.Decide.{dec_le}
use native.Mathlib.Nat.{mul-le-mul, mul-le-mul_right}
use native.Mathlib.Omega.{arith}
use Rattle.figures.specs.RoofRules.{roof_refusal}
use Rattle.figures.specs.declared.site.Site.{Site}
use Rattle.figures.specs.declared.slopes.Slope.{Slope}
use Rattle.figures.specs.declared.slopes.GuardedSlope.{GuardedSlope}
use Rattle.figures.specs.declared.roof.Shape.{Shape}
use Rattle.figures.specs.declared.roof.Shape.TheVariants.{Monopitch, Pitched}
use Rattle.figures.specs.declared.roof.Roof.{Roof}
use Rattle.rounding.specs.Fraction.{Fraction, Below, Same}
use Rattle.rounding.specs.Load.{exact, break_load}
use Rattle.rounding.proofs.Rounding.{mono, up_mono}
use Rattle.rounding.proofs.Ramps.{break_alone}
use Rattle.standard.specs.Arrangements.{factor_of}
use Rattle.standard.specs.Coefficients.{slope_mu}
use Rattle.standard.specs.Numerators.{mu1_num, slope_num}
use Rattle.standard.specs.Stretch.{load, load_alone}
use Rattle.figures.specs.Slopes.{slope_at}
use Rattle.standard.specs.Forces.{slope_load, whole_load, whole_at, larger_whole, force, none}
use Rattle.standard.specs.Forces.{overhang_force, overhang_at, overhang_answer, overhang_distance}
use Rattle.figures.proofs.Sides.{side_in}
use Rattle.standard.proofs.Forces.{mu_most, overhang_is, whole_near, answers_from}
use Rattle.standard.proofs.Loads.{load_positive}
use Rattle.standard.proofs.Numerators.{slope_mu_positive, slope_mu_is}

-- "On kind 3 the overhang at either eave now uses the larger of the two slopes' S": slopes 1 and 2 have it, no other has one.
module _ (site : Site) (left right : GuardedSlope) where
  two_present : (a b : Bool) → is_some (cond a (Some left) (cond b (Some right) None)) ≡ (a || b)
  two_present true b = refl
  two_present false true = refl
  two_present false false = refl

  pub pitched_eaves :
      (n : ℕ)
      → overhang_at site (Pitched left right) n
      ≡ cond ((eqb n 1 || eqb n 2) && ltb 800 site.altitude)
      (force (overhang_force (max (whole_load site left.slope left.guard) (whole_load site right.slope right.guard)))) none
  unfolding overhang_at larger_whole slope_at whole_at
  pitched_eaves n = rw (two_present (eqb n 1) (eqb n 2))

-- S at slope 1 or 2 is at most the larger S of the roof.
pub own_at_most : (site : Site) (shape : Shape) (n : ℕ) → 0 < n → n ≤ 2 → whole_at site (slope_at shape n) ≤ larger_whole site shape
unfolding larger_whole
own_at_most site shape n h k =
    elim (dec_le n 1) [
      | yes p ↦ let e : n ≡ 1 = omega arith in rw e (omega arith)
      | no p ↦ let e : n ≡ 2 = omega arith in rw e (omega arith)
    ]

-- A larger S has no smaller overhang.
pub overhang_rises : (s t : ℕ) → s ≤ t → overhang_force s ≤ overhang_force t
overhang_rises s t h =
    let c : s * s * s ≤ t * t * t = mul-le-mul (mul-le-mul h h) h in
    omega (arith, overhang_is s, overhang_is t, mono (s * s * s) (t * t * t) 3000000 (omega arith) c)

-- So no overhang is below the one from the slope's own S.
pub no_lower :
    (site : Site) (shape : Shape) (n : ℕ) → 0 < n → n ≤ 2
    → overhang_force (whole_at site (slope_at shape n)) ≤ overhang_force (larger_whole site shape)
no_lower site shape n h k = overhang_rises _ _ (own_at_most site shape n h k)

-- "Kind 2 is unaffected": slope 1 has the overhang of its own S, no other has one.
module _ (site : Site) (slope : GuardedSlope) where
  monopitch_whole : larger_whole site (Monopitch slope) ≡ whole_load site slope.slope slope.guard
  unfolding larger_whole slope_at whole_at
  monopitch_whole = omega arith

  one_present : (a : Bool) → is_some (cond a (Some slope) None) ≡ a
  one_present true = refl
  one_present false = refl

  pub monopitch_unaffected :
      (n : ℕ)
      → overhang_at site (Monopitch slope) n
      ≡ cond (eqb n 1 && ltb 800 site.altitude) (force (overhang_force (whole_load site slope.slope slope.guard))) none
  unfolding overhang_at slope_at
  monopitch_unaffected n = rw (monopitch_whole, one_present (eqb n 1))

  pub monopitch_answers :
      (store : List ℕ) (roof : Roof) (n : ℕ) → roof.shape ≡ Monopitch slope
      → overhang_distance (overhang_answer store site roof n) (exact (slope_load site slope.slope slope.guard)) (slope_at roof.shape n)
  monopitch_answers store roof n e = answers_from store site roof n _ (rw (e, monopitch_whole) (whole_near site slope.slope slope.guard))

-- "The guard force keeps its own slope's S". No slope has more than 0.8, which a guarded one has, so its S is the larger one.
guarded_mu : (slope other : Slope) (guard : ℕ) → guard ≤ 1 → Below (slope_mu other guard) (slope_mu slope 1)
unfolding Below Same slope_num mu1_num
guarded_mu slope other guard h =
    let m = slope_mu other guard in
    let g = slope_mu slope 1 in
    let eight : g.num * 375 ≡ 300 * g.den = slope_mu_is slope 1 (omega arith) ∙ ap (λ (z : ℕ). z * g.den) (omega arith) in
    omega (arith, mul-le-mul_right g.den (mu_most other guard h), ap (λ (z : ℕ). z * m.den) eight)

mu_up :
    (m n : Fraction) (factor sk : ℕ) → 0 < m.den → 0 < n.den → Below m n
    → break_load 1 (load_alone m factor sk) ≤ break_load 1 (load_alone n factor sk)
unfolding Below load
mu_up m n factor sk hm hn h =
    rw (break_alone 1 (load m factor sk), break_alone 1 (load n factor sk))
    (up_mono 1 _ _ (load_positive m factor sk hm) (load_positive n factor sk hn) (omega (arith, mul-le-mul_right (factor * sk * 1000000) h)))

module _ (site : Site) (roof : Roof) (n : ℕ) (slope : Slope)
    (h : 0 < n) (k : n ≤ 2) (hr : roof_refusal roof ≡ 0) (e : slope_at roof.shape n ≡ Some (record { slope = slope; guard = 1 })) where
  other_at_most : (m : ℕ) (at : Option GuardedSlope) → slope_at roof.shape m ≡ at → whole_at site at ≤ whole_load site slope 1
  unfolding whole_at whole_load slope_load
  other_at_most m None f = omega arith
  other_at_most m (Some other) f =
      mu_up (slope_mu other.slope other.guard) (slope_mu slope 1) (factor_of site 1) site.sk
      (slope_mu_positive other.slope other.guard) (slope_mu_positive slope 1)
      (guarded_mu slope other.slope other.guard (side_in roof m other hr f).guard)

  pub guarded_is_larger : whole_load site slope 1 ≡ larger_whole site roof.shape
  unfolding larger_whole whole_at
  guarded_is_larger =
      let own = subst (λ (at : Option GuardedSlope). whole_at site at ≤ larger_whole site roof.shape) e (own_at_most site roof.shape n h k) in
      omega (arith, own, other_at_most 1 _ refl, other_at_most 2 _ refl)
