-- A pitch moved by a tenth moves μ1 by at most 1/375 and μ2 of a mean by 1/750, by 1/375 where both pitches of its valley move; and a load by
-- the same part of X.
use Prim.Native.Nat.{ℕ, ◌+◌, ◌*◌, ◌≤◌, ◌<◌}
use mathlib.Core.Bool.{Bool, true, false}
use native.Mathlib.Nat.{mul-le-mul_right}
use native.Mathlib.Omega.{arith}
use Rattle.figures.specs.declared.site.Site.{Site}
use Rattle.figures.specs.declared.slopes.Slope.{Slope}
use Rattle.rounding.specs.Fraction.{Fraction, over, sum, Below}
use Rattle.rounding.proofs.Limited.{below_refl}
use Rattle.standard.specs.Arrangements.{factor_of}
use Rattle.standard.specs.Coefficients.{mu2, slope_mu}
use Rattle.standard.specs.Numerators.{mu1_num, slope_num, mu2_num}
use Rattle.standard.specs.Pitched.{halved}
use Rattle.standard.specs.Stretch.{load, load_alone}
use Rattle.standard.proofs.Numerators.{slope_mu_is, mu2_is}
use Rattle.moved_pitches.specs.Apart.{AtMostAbove, tenth_cost}
use Rattle.moved_pitches.specs.Pitches.{TenthApart}
use Rattle.moved_pitches.proofs.Apart.{LoadsAbove, over_above}

-- of a slope with its guard; a guard of 0 leaves μ1
pub slope_mu_above :
    (s t : Slope) (guard : ℕ) → guard ≤ 1 → TenthApart s.pitch t.pitch → AtMostAbove (over 1 375) (slope_mu s guard) (slope_mu t guard)
unfolding slope_num mu1_num
slope_mu_above s t guard g a =
    over_above (over 1 375) _ _ (slope_num s.pitch guard) (slope_num t.pitch guard) 375 (omega arith)
    (slope_mu_is s guard g) (slope_mu_is t guard g) (omega (arith, a.up, a.down))

-- of a valley's two pitches together
pub mu2_above : (p q : ℕ) → p ≤ q + 2 → AtMostAbove (over 1 375) (mu2 p) (mu2 q)
unfolding mu2_num
mu2_above p q h = over_above (over 1 375) _ _ (mu2_num p) (mu2_num q) 750 (omega arith) (mu2_is p) (mu2_is q) (omega arith)

pub halved_above : (half : Bool) (mu nu : Fraction) → AtMostAbove (over 1 375) mu nu → AtMostAbove (over 1 375) (halved half mu) (halved half nu)
unfolding AtMostAbove Below sum
halved_above true mu nu p = omega (arith, mul-le-mul_right 4 p)
halved_above false mu nu p = p

module _ (site : Site) (code : ℕ) where
  pub tenth_positive : 0 < (tenth_cost site code).den
  unfolding load
  tenth_positive = omega arith

  weighed :
      (mu nu : Fraction) → AtMostAbove (over 1 375) mu nu
      → AtMostAbove (tenth_cost site code) (load mu (factor_of site code) site.sk) (load nu (factor_of site code) site.sk)
  unfolding AtMostAbove Below sum load
  weighed mu nu p = omega (arith, mul-le-mul_right (factor_of site code * site.sk * 1000000000000) p)

  pub loads_above :
      (mu nu : Fraction) → AtMostAbove (over 1 375) mu nu
      → LoadsAbove (tenth_cost site code) (load_alone mu (factor_of site code) site.sk) (load_alone nu (factor_of site code) site.sk)
  loads_above mu nu p = record { first = weighed mu nu p; second = below_refl (over 0 1) }
