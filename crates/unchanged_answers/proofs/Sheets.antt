-- A sheet read with two stores that are alike for its job: every rule, every figure and every line of its listing is the same.
use Prim.Native.Nat.{ℕ, zero, suc}
use mathlib.Core.Bool.{Bool, true, false, cond}
use mathlib.Core.List.{List}
use mathlib.Core.Path.{◌≡◌, refl, ap, fun_ext, ◌∙◌}
use lib.Dec.{eqb}
use Rattle.std.specs.Prelude.{Result, Ok, Err}
use Rattle.ceilings.specs.Ceilings.{terminals}
use Rattle.ceilings.specs.declared.Ceiling.{Ceiling}
use Rattle.figures.specs.declared.refusal.Refusal.{Refusal}
use Rattle.figures.specs.Store.{set_count, store_refusal, SameFor}
use Rattle.item_forms.specs.declared.Item.{Item}
use Rattle.item_forms.specs.declared.Item.TheVariants.{SiteItem, RoofItem, LowerItem}
use Rattle.item_rules.specs.Figures.{site_by}
use Rattle.item_rules.specs.Rules.{job_refusal, rule_by}
use Rattle.listing.specs.Listing.{listing_by, listing}
use Rattle.pairs.specs.Pairs.{Answer, accepted, refused, and_then, part}
use Rattle.sheet.specs.Sheet.{Place, item_number, rules_verdict, store_verdict, sheet_verdict, place_by, place}
use Rattle.sheet_figures.specs.Find.{sheet_site, sheet_national, found_by, found}
use Rattle.standard.proofs.Stores.{same_day, same_figures}
use Rattle.upper_items.specs.Uppers.{item_at}

-- the number of sets in an accepted store plays no part
uncounted : (t : Bool) (m n k : ℕ) (v : Answer ℕ) → and_then (cond t (accepted m) (refused k 0)) v ≡ and_then (cond t (accepted n) (refused k 0)) v
uncounted true m n k v = refl
uncounted false m n k v = refl

module _ (a b : List ℕ) where
  first_rule : (p : List ℕ) (x : Result Item Refusal) → SameFor a b (site_by x).day → rule_by a 0 p x ≡ rule_by b 0 p x
  unfolding job_refusal
  first_rule p (Ok (SiteItem fields)) h = rw (same_day a b fields.day h)
  first_rule p (Ok (RoofItem shape)) h = refl
  first_rule p (Ok (LowerItem lower)) h = refl
  first_rule p (Err refusal) h = refl

  later_rule : (i : ℕ) (p : List ℕ) (x : Result Item Refusal) → rule_by a (suc i) p x ≡ rule_by b (suc i) p x
  later_rule i p (Ok (SiteItem fields)) = refl
  later_rule i p (Ok (RoofItem shape)) = refl
  later_rule i p (Ok (LowerItem lower)) = refl
  later_rule i p (Err refusal) = refl

module _ (a b s : List ℕ) (h : SameFor a b (sheet_site s).day) where
  same_number : (i : ℕ) → item_number a s i ≡ item_number b s i
  unfolding item_number sheet_site
  same_number zero = first_rule a b (part s 0) (item_at s 0) h
  same_number (suc i) = later_rule a b i (part s (suc i)) (item_at s (suc i))

  same_rules : (ceiling : Ceiling) → rules_verdict a ceiling s ≡ rules_verdict b ceiling s
  unfolding rules_verdict
  same_rules ceiling =
      let e : item_number a s ≡ item_number b s = fun_ext same_number in
      rw e

  pub same_verdict : (ceiling : Ceiling) → sheet_verdict a ceiling s ≡ sheet_verdict b ceiling s
  unfolding sheet_verdict store_verdict
  same_verdict ceiling =
      rw (h.refusal, same_rules ceiling) (uncounted (eqb (store_refusal b) 0) (set_count a) (set_count b) (store_refusal b) (rules_verdict b ceiling s))

  pub same_place : (ceiling : Ceiling) (i : ℕ) → place a ceiling s i ≡ place b ceiling s i
  unfolding place
  same_place ceiling i = ap (λ (v : Answer ℕ). place_by v s i) (same_verdict ceiling)

  same_national : sheet_national a s ≡ sheet_national b s
  unfolding sheet_national
  same_national = same_figures a b (sheet_site s).day h

  found_at : (v : Answer Place) (i : ℕ) → found_by v a s i ≡ found_by v b s i
  found_at (refused number item) i = refl
  found_at (accepted p) i = rw same_national

  pub same_found : (i : ℕ) → found a s i ≡ found b s i
  unfolding found
  same_found i = found_at (place a terminals s i) i ∙ ap (λ (v : Answer Place). found_by v b s i) (same_place terminals i)

  listed_by : (v : Answer ℕ) → listing_by a v s ≡ listing_by b v s
  unfolding listing_by
  listed_by (refused number item) = refl
  listed_by (accepted n) = rw same_national

  pub same_listing : listing a s ≡ listing b s
  unfolding listing
  same_listing = listed_by (sheet_verdict a terminals s) ∙ ap (λ (v : Answer ℕ). listing_by b v s) (same_verdict terminals)
