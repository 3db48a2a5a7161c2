-- Local forces, kinds 2 and 3, persistent, in N/m: the overhang at an eave and the force at a guard.
use Rattle.std.specs.Prelude.{ℕ, ◌+◌, ◌*◌, ◌<◌, max, cond, ◌&&◌, List, Option, Some, None, is_some, ltb, eqb}
use Rattle.figures.specs.Refusals.{figures_refusal}
use Rattle.figures.specs.Slopes.{slope_at}
use Rattle.figures.specs.declared.site.Site.{Site}
use Rattle.figures.specs.declared.slopes.Slope.{Slope}
use Rattle.figures.specs.declared.slopes.GuardedSlope.{GuardedSlope}
use Rattle.figures.specs.declared.roof.Shape.{Shape}
use Rattle.figures.specs.declared.roof.Roof.{Roof}
use Rattle.rounding.specs.Fraction.{Fraction, over, AtMost, Under}
use Rattle.rounding.specs.Limit.{smaller, larger}
use Rattle.rounding.specs.Load.{Load, exact, break_load}
use Rattle.rounding.specs.Up.{rounded_up}
use Rattle.standard.specs.Arrangements.{factor_of}
use Rattle.standard.specs.Coefficients.{slope_mu}
use Rattle.standard.specs.Sine.{sine_reference, sine_entry}
use Rattle.standard.specs.Stretch.{load_alone}

-- "S is the slope's code 1 load": its exact load, and the whole number; "S stays whole" where loads are worked in tenths (document 02, A4)
unfoldable pub slope_load : Site → Slope → ℕ → Load
slope_load site slope guard = load_alone (slope_mu slope guard) (factor_of site 1) site.sk

unfoldable pub whole_load : Site → Slope → ℕ → ℕ
whole_load site slope guard = break_load 1 (slope_load site slope guard)

-- the same at a slope by its number, unrounded and whole: a slope that isn't there carries nothing
unfoldable pub unrounded_at : Site → Option GuardedSlope → Fraction
unrounded_at site None = over 0 1
unrounded_at site (Some slope) = exact (slope_load site slope.slope slope.guard)

unfoldable pub whole_at : Site → Option GuardedSlope → ℕ
whole_at site None = 0
whole_at site (Some slope) = whole_load site slope.slope slope.guard

-- 6.3, document 02, A5: "s is the most onerous undrifted load for the roof", the larger of the two slopes' S, unrounded and whole; kind 2
-- has slope 1 alone
unfoldable pub larger_unrounded : Site → Shape → Fraction
larger_unrounded site shape = larger (unrounded_at site (slope_at shape 1)) (unrounded_at site (slope_at shape 2))

unfoldable pub larger_whole : Site → Shape → ℕ
larger_whole site shape = max (whole_at site (slope_at shape 1)) (whole_at site (slope_at shape 2))

-- 6.3 (6.4) with γ = 3 k_n/m³, k = 3/d limited by dγ, d = S/γ: the smaller of 3S and S³/3,000,000
unfoldable pub overhang_rule : Fraction → Fraction
overhang_rule s = smaller (over (3 * s.num) s.den) (over (s.num * s.num * s.num) (3000000 * (s.den * s.den * s.den)))

-- the overhang over the whole S, rounded up
unfoldable pub overhang_force : ℕ → ℕ
overhang_force s = rounded_up 1 (overhang_rule (over s 1))

-- 6.4 (6.5): S × width/1,000 × sine
unfoldable pub guard_rule : Fraction → ℕ → Fraction → Fraction
guard_rule s width sine = over (s.num * width * sine.num) (s.den * 1000 * sine.den)

-- the guard force over the whole S and the table's entry, rounded up
unfoldable pub guard_force : ℕ → ℕ → ℕ → ℕ
guard_force s width pitch = rounded_up 1 (guard_rule (over s 1) width (over (sine_entry pitch) 1000000))

-- what a call answers: a force, none, or the number of the first broken rule
pub data Force : Type 0 where
  force : ℕ → Force
  none : Force
  refused : ℕ → Force

-- above 800 m, at a slope that the roof has; "On kind 3 the overhang at either eave now uses the larger of the two slopes' S"
unfoldable pub overhang_at : Site → Shape → ℕ → Force
overhang_at site shape n =
    cond (is_some (slope_at shape n) && ltb 800 site.altitude) (force (overhang_force (larger_whole site shape))) none

unfoldable pub overhang_answer : List ℕ → Site → Roof → ℕ → Force
overhang_answer store site roof n =
    cond (eqb (figures_refusal store site roof) 0) (overhang_at site roof.shape n) (refused (figures_refusal store site roof))

-- "The guard force keeps its own slope's S": at a slope that the roof has and that has a guard
unfoldable pub guard_at : Site → Option GuardedSlope → Force
guard_at site None = none
guard_at site (Some slope) =
    cond (eqb slope.guard 1) (force (guard_force (whole_load site slope.slope slope.guard) slope.slope.width slope.slope.pitch)) none

unfoldable pub guard_answer : List ℕ → Site → Roof → ℕ → Force
guard_answer store site roof n =
    cond (eqb (figures_refusal store site roof) 0) (guard_at site (slope_at roof.shape n)) (refused (figures_refusal store site roof))

-- r is not below f, and less than 10 above it
pub record OverhangNear (r : ℕ) (f : Fraction) : Type 0 where
  pub positive : 0 < f.den
  pub low : AtMost f r
  pub high : Under r f 10

-- "never below the rule over the unrounded S and less than 10 above", of what is answered at a slope; "The distance of 10 N/m still applies,
-- from the larger unrounded S" (document 02, A5), which stands for s; there is no force at a slope that isn't there
abbrev pub overhang_distance : Force → Fraction → Option GuardedSlope → Type 0
overhang_distance (force r) s (Some slope) = OverhangNear r (overhang_rule s)
overhang_distance (force r) s None = ⊥
overhang_distance none s at = Unit
overhang_distance (refused number) s at = Unit

-- r is less than 2 below f, and less than the width in metres plus 3 above it; the width is in mm
pub record GuardNear (r width : ℕ) (f : Fraction) : Type 0 where
  pub positive : 0 < f.den
  pub low : f.num < (r + 2) * f.den
  pub high : r * f.den * 1000 < f.num * 1000 + (width + 3000) * f.den

-- "less than 2 below and less than the width in metres plus 3 above the rule over the unrounded S and the reference", of what is answered
abbrev pub guard_distance : Force → Site → Option GuardedSlope → Type 0
guard_distance (force r) site (Some slope) =
    GuardNear r slope.slope.width
    (guard_rule (exact (slope_load site slope.slope slope.guard)) slope.slope.width (sine_reference slope.slope.pitch))
guard_distance (force r) site None = ⊥
guard_distance none site at = Unit
guard_distance (refused number) site at = Unit
