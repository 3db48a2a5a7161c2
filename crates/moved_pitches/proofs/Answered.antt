-- What the call that reads a load answers about two accepted roofs, with any store, site, code and station: the same refusal, or loads that
-- lie no further apart than pitches moved by a tenth allow.
use Prim.Native.Nat.{ℕ}
use mathlib.Core.Bool.{Bool, true, false, cond}
use mathlib.Core.List.{List}
use mathlib.Core.Path.{◌≡◌, refl}
use borrow.Author.Tests.{eqb-true}
use lib.Dec.{eqb, leb}
use Rattle.figures.specs.Bounds.{FiguresIn}
use Rattle.figures.specs.Refusals.{figures_refusal}
use Rattle.figures.specs.RoofRules.{roof_refusal}
use Rattle.figures.specs.declared.site.Site.{Site}
use Rattle.figures.specs.declared.roof.Roof.{Roof}
use Rattle.standard.specs.Answers.{value, refused, after_rules, after_code, national_for, station_answer, load_in, load_answer}
use Rattle.standard.specs.Arrangements.{exists, end_of, load_at}
use Rattle.standard.proofs.Answered.{figures_accepted, answered}
use Rattle.moved_pitches.specs.Apart.{tenth_cost, ReadingsApart, WholeApart, AnswersApart}
use Rattle.moved_pitches.specs.Pitches.{PitchMoved, PitchesMoved}
use Rattle.moved_pitches.proofs.Shapes.{one_moved}
use Rattle.moved_pitches.proofs.Roofs.{same_codes, same_end, whole_moves, reading_moves}

module _ (store : List ℕ) (site : Site) (roof other : Roof) (code p : ℕ) where
  module _ (hr : roof_refusal roof ≡ 0) (ho : roof_refusal other ≡ 0) where
    same_rules : figures_refusal store site other ≡ figures_refusal store site roof
    same_rules = rw (hr, ho)

    apart :
        (R : ℕ → ℕ → Type 0) → PitchesMoved roof other
        → (FiguresIn (national_for store site) site roof
        → R (load_at (national_for store site) site roof code p) (load_at (national_for store site) site other code p))
        → AnswersApart R (load_answer store site roof code p) (load_answer store site other code p)
    unfolding load_answer load_in after_rules after_code station_answer
    apart R m r =
        rw (same_rules, same_codes roof other m site code, same_end roof other m)
        (go (eqb (figures_refusal store site roof) 0) (exists site roof code) (leb p (end_of roof)) refl)
      where
        go :
            (k e b : Bool) → eqb (figures_refusal store site roof) 0 ≡ k
            → AnswersApart R
            (cond k (cond e (cond b (value (load_at (national_for store site) site roof code p)) (refused 12)) (refused 13))
            (refused (figures_refusal store site roof)))
            (cond k (cond e (cond b (value (load_at (national_for store site) site other code p)) (refused 12)) (refused 13))
            (refused (figures_refusal store site roof)))
        go true true true h = r (figures_accepted store site roof (eqb-true (figures_refusal store site roof) 0 h))
        go true true false h = refl
        go true false b h = refl
        go false e b h = refl

    -- each pitch moved by a tenth at most: by no more than X/375, rounded up
    pub answers_move :
        PitchesMoved roof other → AnswersApart (WholeApart (tenth_cost site code)) (load_answer store site roof code p) (load_answer store site other code p)
    answers_move m = apart _ m (λ f. whole_moves (national_for store site) site code f.national f.site roof other hr ho m p)

    -- "one pitch moved by a tenth, with both roofs accepted, must move a reading by less than X/375 + 1.2 N/m²"
    pub answer_moves :
        PitchMoved roof other → AnswersApart (ReadingsApart (tenth_cost site code)) (load_answer store site roof code p) (load_answer store site other code p)
    answer_moves m =
        apart _ (one_moved roof other m) (λ f. reading_moves (national_for store site) site code f.national f.site roof other hr ho m p)

  -- where both are loads, both roofs were accepted
  pub loads_move :
      (x y : ℕ) → PitchMoved roof other → load_answer store site roof code p ≡ value x → load_answer store site other code p ≡ value y
      → ReadingsApart (tenth_cost site code) x y
  loads_move x y m e f =
      let a = answered store site roof code p x e in
      let b = answered store site other code p y f in
      rw (e, f) at (answer_moves a.rules.roof b.rules.roof m)
