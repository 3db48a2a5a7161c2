-- What the calls on figures answer about a roof from its other end, with any store, site, roof and code: a load, or the refusal that they
-- answer about the roof.
use Prim.Native.Nat.{ℕ, ◌-◌, ◌≤◌}
use mathlib.Core.Path.{◌≡◌, refl}
use mathlib.Core.Bool.{Bool, true, false, cond}
use mathlib.Core.List.{List}
use borrow.Author.Tests.{eqb-true, le-leb}
use lib.Dec.{eqb}
use native.Mathlib.Omega.{arith}
use Rattle.figures.specs.Refusals.{figures_refusal}
use Rattle.figures.specs.Bounds.{FiguresIn}
use Rattle.figures.specs.RoofRules.{kind_of, drifts_of, roof_refusal}
use Rattle.figures.specs.declared.site.Site.{Site}
use Rattle.figures.specs.declared.roof.Roof.{Roof}
use Rattle.standard.specs.Answers.{Answer, refused, after_rules, after_code, national_for, room_answer, make_in, make_answer}
use Rattle.standard.specs.Answers.{segment_count_in, segment_count_answer, index_answer, segment_in, segment_answer, station_answer, load_in, load_answer}
use Rattle.standard.specs.Arrangements.{exists, end_of}
use Rattle.standard.specs.Units.{parts}
use Rattle.standard.proofs.Answered.{figures_accepted}
use Rattle.turned_roofs.specs.OtherEnd.{SameFromEnd, AnsweredAlike}
use Rattle.turned_roofs.specs.Turned.{mirrored, is_turned, turned, turned_code, is_mirrored, mirrored_code}
use Rattle.turned_roofs.proofs.OtherEnd.{mirrored_exists, same_from_end}
use Rattle.turned_roofs.proofs.Rules.{same_refusal}
use Rattle.turned_roofs.proofs.Roofs.{turned_refusal, turned_exists, turned_from_end}

module _ (store : List ℕ) (site : Site) (roof other : Roof) (r : roof_refusal other ≡ roof_refusal roof) where
  pub same_rules : figures_refusal store site other ≡ figures_refusal store site roof
  same_rules = rw r

  module _ (code other_code : ℕ) (x : exists site other other_code ≡ exists site roof code)
      (s : FiguresIn (national_for store site) site roof → exists site roof code ≡ true
      → SameFromEnd (national_for store site) site roof code other other_code)
    where
      -- past the rules and 13 the loads are those from the other end
      past_rules :
          (a b : Answer) → (SameFromEnd (national_for store site) site roof code other other_code → a ≡ b)
          → after_rules store site other (after_code site other other_code a) ≡ after_rules store site roof (after_code site roof code b)
      unfolding after_rules after_code
      past_rules a b same = rw (same_rules, x) (go (eqb (figures_refusal store site roof) 0) (exists site roof code) refl refl)
        where
          go :
              (k e : Bool) → eqb (figures_refusal store site roof) 0 ≡ k → exists site roof code ≡ e
              → cond k (cond e a (refused 13)) (refused (figures_refusal store site roof))
              ≡ cond k (cond e b (refused 13)) (refused (figures_refusal store site roof))
          go true true p q = same (s (figures_accepted store site roof (eqb-true (figures_refusal store site roof) 0 p)) q)
          go true false p q = refl
          go false e p q = refl

      read_alike : (p : ℕ) → p ≤ end_of roof → load_answer store site other other_code (end_of roof - p) ≡ load_answer store site roof code p
      unfolding load_answer load_in station_answer
      read_alike p h =
          past_rules _ _
          (λ e.
          rw (e.as_long, e.load parts p h, le-leb p (end_of roof) h, le-leb (end_of roof - p) (end_of roof) (omega arith)))

      made_alike : (room : ℕ) → make_answer store site other other_code room ≡ make_answer store site roof code room
      unfolding make_answer make_in room_answer
      made_alike room = past_rules _ _ (λ e. rw e.as_many)

      counted_alike : segment_count_answer store site other other_code ≡ segment_count_answer store site roof code
      unfolding segment_count_answer segment_count_in
      counted_alike = past_rules _ _ (λ e. rw e.as_many)

      one_alike : (i room : ℕ) → segment_answer store site other other_code i room ≡ segment_answer store site roof code i room
      unfolding segment_answer segment_in index_answer
      one_alike i room = past_rules _ _ (λ e. rw e.as_many)

      alike : AnsweredAlike store site roof code other other_code
      alike = record { load = read_alike; make = made_alike; count = counted_alike; segment = one_alike }

module _ (store : List ℕ) (site : Site) (roof : Roof) (code : ℕ) where
  -- of accepted figures, under the national ones in use
  pub turned_in_use :
      figures_refusal store site roof ≡ 0 → exists site roof code ≡ true → is_turned (kind_of roof.shape) ≡ true
      → SameFromEnd (national_for store site) site roof code (turned roof) (turned_code (kind_of roof.shape) code)
  turned_in_use h e t =
      let f = figures_accepted store site roof h in
      turned_from_end (national_for store site) site roof code f.national f.site f.roof e t

  -- "the load at a position must equal the load at the roof's end less that position"
  pub turned_answers : is_turned (kind_of roof.shape) ≡ true → AnsweredAlike store site roof code (turned roof) (turned_code (kind_of roof.shape) code)
  turned_answers t =
      alike store site roof (turned roof) (turned_refusal roof) code (turned_code (kind_of roof.shape) code) (turned_exists roof code site)
      (λ f e. turned_from_end (national_for store site) site roof code f.national f.site f.roof e t)

  -- of kinds 9 and 12 too
  pub mirrored_answers :
      is_mirrored (kind_of roof.shape) ≡ true
      → AnsweredAlike store site roof code (mirrored roof.shape roof.spans) (mirrored_code (kind_of roof.shape) (drifts_of roof.shape) code)
  mirrored_answers t =
      alike store site roof _ (same_refusal roof.shape roof.spans) code _ (mirrored_exists site roof code)
      (λ f e. same_from_end (national_for store site) site roof code f.national f.site f.roof e t)
