-- Two sheets of alike items: the same verdict, the same upper items and the same order.
use Prim.Native.Nat.{ℕ, zero, suc, ◌+◌, ◌-◌, ◌≤◌, ◌<◌}
use mathlib.Core.Bool.{Bool, true, false, cond, ◌&&◌}
use mathlib.Core.List.{List}
use mathlib.Core.Path.{◌≡◌, refl, sym, ap, fun_ext, ◌∙◌}
use borrow.Author.Tests.{ltb-true, lt-ltb}
use lib.Dec.{ltb}
use native.Mathlib.Omega.{arith}
use Rattle.std.specs.Prelude.{Result, Ok}
use Rattle.ceilings.specs.declared.Ceiling.{Ceiling}
use Rattle.circles.specs.Following.{comes_back}
use Rattle.figures.specs.Rules.{refused_if}
use Rattle.figures.specs.declared.refusal.Refusal.{Refusal}
use Rattle.figures.specs.declared.site.SiteData.{SiteData}
use Rattle.item_forms.specs.Forms.{is_lower}
use Rattle.item_forms.specs.declared.Item.{Item}
use Rattle.item_forms.specs.declared.Item.TheVariants.{SiteItem}
use Rattle.items.specs.Items.{content}
use Rattle.order.specs.Order.{order}
use Rattle.pairs.specs.Pairs.{accepted, in_turn, pairs_verdict, and_then, part}
use Rattle.pairs.proofs.Kept.{pairs_kept}
use Rattle.pairs.proofs.Walks.{same_walk}
use Rattle.stepped_roofs.specs.Stepped.{is_upper}
use Rattle.upper_items.specs.Uppers.{item_at, upper_index, upper, roof_order}
use Rattle.upper_rules.specs.UpperRules.{may_stand_above, upper_number, circle_number, uppers_verdict}
use Rattle.upper_rules.proofs.Kept.{upper_below}
use Rattle.sheet.specs.Sheet.{item_number, store_verdict, sheet_verdict}
use Rattle.sheet.proofs.Kept.{sheet_kept, rules_items}

-- Sheets s and t have n items each, at sound pairs. Their first items break the same rule or none, and whatever is the same of every two
-- sites is the same of these two. All other items are equal.
pub record AlikeSheets (store : List ℕ) (ceiling : Ceiling) (s t : List ℕ) (n : ℕ) : Type 1 where
  pub pairs : pairs_verdict ceiling s ≡ accepted n
  pub other_pairs : pairs_verdict ceiling t ≡ accepted n
  pub number : item_number store s 0 ≡ item_number store t 0
  pub first : {A : Type 0} (f : Result Item Refusal → A) → ((a b : SiteData) → f (Ok (SiteItem a)) ≡ f (Ok (SiteItem b))) → f (item_at s 0) ≡ f (item_at t 0)
  pub others : (i : ℕ) → 0 < i → i < n → part s i ≡ part t i

module _ {store : List ℕ} {ceiling : Ceiling} {s t : List ℕ} {n : ℕ} (g : AlikeSheets store ceiling s t n) where
  same_number : (i : ℕ) → 0 ≤ i → i < 0 + n → item_number store s i ≡ item_number store t i
  unfolding item_number
  same_number zero a b = g.number
  same_number (suc i) a b = rw (g.others (suc i) (omega arith) (omega arith))

  -- what tells no site from another tells no item of s from that of t
  pub same_by :
      {A : Type 0} (f : Result Item Refusal → A) → ((a b : SiteData) → f (Ok (SiteItem a)) ≡ f (Ok (SiteItem b))) → (i : ℕ) → i < n → f (item_at s i) ≡ f (item_at t i)
  same_by f h zero l = g.first f h
  same_by f h (suc i) l = ap (λ (p : List ℕ). f (content p)) (g.others (suc i) (omega arith) l)

  same_upper : upper s n ≡ upper t n
  unfolding upper
  same_upper = fun_ext (λ i. by_test i (ltb i n) refl)
    where
      by_test : (i : ℕ) (b : Bool) → ltb i n ≡ b → cond b (upper_index (item_at s i)) 0 ≡ cond b (upper_index (item_at t i)) 0
      by_test i true e = same_by upper_index (λ a b. refl) i (ltb-true i n e)
      by_test i false e = refl

  same_above : (i : ℕ) → may_stand_above s n i ≡ may_stand_above t n i
  same_above i = by_test (ltb i n) refl
    where
      by_test : (b : Bool) → ltb i n ≡ b → (b && is_upper (item_at s i)) ≡ (b && is_upper (item_at t i))
      by_test true e = same_by is_upper (λ a b. refl) i (ltb-true i n e)
      by_test false e = refl

  same_sixteen : (i : ℕ) → 0 ≤ i → i < 0 + n → upper_number s n i ≡ upper_number t n i
  unfolding upper_number
  same_sixteen i a b =
      rw (same_by is_lower (λ x y. refl) i (omega arith), same_by upper_index (λ x y. refl) i (omega arith), same_above (upper_index (item_at t i)))

  same_uppers : uppers_verdict s n ≡ uppers_verdict t n
  unfolding uppers_verdict circle_number
  same_uppers =
      let circles : in_turn (circle_number s n) n 1 (n - 1) ≡ in_turn (circle_number t n) n 1 (n - 1) =
      ap (λ (up : ℕ → ℕ). in_turn (λ i. refused_if (comes_back up n i) 17) n 1 (n - 1)) same_upper in
      rw (same_walk (upper_number s n) (upper_number t n) n 0 n same_sixteen, circles)

  pub same_verdict : sheet_verdict store ceiling s ≡ sheet_verdict store ceiling t
  unfolding sheet_verdict
  same_verdict =
      let items : and_then (in_turn (item_number store s) n 0 n) (uppers_verdict s n) ≡ and_then (in_turn (item_number store t) n 0 n) (uppers_verdict t n) =
      rw (same_walk (item_number store s) (item_number store t) n 0 n same_number, same_uppers) in
      ap (and_then (store_verdict store))
      (sym (rules_items store ceiling s n g.pairs) ∙ (items ∙ rules_items store ceiling t n g.other_pairs))

  pub same_order : roof_order s n ≡ roof_order t n
  same_order = ap (λ (up : ℕ → ℕ). order up n) same_upper

  -- an accepted sheet has the count of its pairs, and its upper items are below it
  module _ (m : ℕ) (v : sheet_verdict store ceiling s ≡ accepted m) where
    pub counted : m ≡ n
    counted = (sheet_kept store ceiling s m v).pairs.counted ∙ sym (pairs_kept ceiling s n g.pairs).counted

    pub above_below : (i : ℕ) → i < n → upper_index (item_at s i) < n
    unfolding upper
    above_below i h =
        let b : upper s n i < n = upper_below s n (rw counted at (sheet_kept store ceiling s m v).uppers) i h in
        rw (lt-ltb i n h) at b
