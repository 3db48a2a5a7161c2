-- The calls on figures ask a store for nothing but its refusal and the set in use: two stores alike for a job give the same answers.
use Prim.Native.Nat.{ℕ}
use mathlib.Core.List.{List}
use Rattle.std.specs.Prelude.{Option}
use mathlib.Core.Path.{◌≡◌, refl, ap}
use Rattle.figures.specs.Refusals.{figures_refusal}
use Rattle.figures.specs.Store.{begun_number, day_refusal, begun_figures, figures_in_use, SameFor}
use Rattle.figures.specs.declared.national.National.{National}
use Rattle.figures.specs.declared.site.Site.{Site}
use Rattle.figures.specs.declared.slopes.Spans.{Spans}
use Rattle.figures.specs.declared.roof.ProjectionRoof.{ProjectionRoof}
use Rattle.figures.specs.declared.roof.Roof.{Roof}
use Rattle.figures.specs.declared.roof.Shape.TheVariants.{Projection}
use Rattle.standard.specs.Arrangements.{count_in, stretch_in}
use Rattle.standard.specs.Answers.{after_rules, make_answer, segment_count_answer, segment_answer, load_answer}
use Rattle.standard.specs.Forces.{overhang_answer, guard_answer}

module _ (a b : List ℕ) (day : Option ℕ) (h : SameFor a b day) where
  pub same_day : day_refusal a day ≡ day_refusal b day
  unfolding day_refusal
  same_day = ap begun_number h.set

  pub same_figures : figures_in_use a day ≡ figures_in_use b day
  unfolding figures_in_use
  same_figures = ap begun_figures h.set

module _ (a b : List ℕ) (site : Site) (roof : Roof) (h : SameFor a b site.day) where
  same_rules : figures_refusal a site roof ≡ figures_refusal b site roof
  same_rules = rw (h.refusal, same_day a b site.day h)

  pub same_make : (code room : ℕ) → make_answer a site roof code room ≡ make_answer b site roof code room
  unfolding make_answer after_rules
  same_make code room = rw (same_rules, same_figures a b site.day h)

  pub same_count : (code : ℕ) → segment_count_answer a site roof code ≡ segment_count_answer b site roof code
  unfolding segment_count_answer after_rules
  same_count code = rw (same_rules, same_figures a b site.day h)

  pub same_segment : (code i room : ℕ) → segment_answer a site roof code i room ≡ segment_answer b site roof code i room
  unfolding segment_answer after_rules
  same_segment code i room = rw (same_rules, same_figures a b site.day h)

  pub same_load : (code p : ℕ) → load_answer a site roof code p ≡ load_answer b site roof code p
  unfolding load_answer after_rules
  same_load code p = rw (same_rules, same_figures a b site.day h)

  pub same_overhang : (n : ℕ) → overhang_answer a site roof n ≡ overhang_answer b site roof n
  unfolding overhang_answer
  same_overhang n = rw same_rules

  pub same_guard : (n : ℕ) → guard_answer a site roof n ≡ guard_answer b site roof n
  unfolding guard_answer
  same_guard n = rw same_rules

-- "kind 7 keeps its own limits": no national figure reaches it, and the same holds of kinds 2, 3, 4, 9, 11 and 12, whose definitions take none
pub projection_alone :
    (m n : National) (p : ProjectionRoof) (spans : Spans) (factor sk code i : ℕ)
    → (count_in m (Projection p) code ≡ count_in n (Projection p) code)
    × (stretch_in m (Projection p) spans factor sk code i ≡ stretch_in n (Projection p) spans factor sk code i)
unfolding count_in stretch_in
projection_alone m n p spans factor sk code i = (refl, refl)
