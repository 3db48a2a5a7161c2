-- What an accepted sheet keeps: its items lie within it and none is empty, and its upper items are sound.
use Prim.Native.Nat.{ℕ, ◌+◌, ◌-◌, ◌≤◌, ◌<◌}
use mathlib.Core.Path.{◌≡◌, refl, subst, sym, ap, ◌∙◌}
use mathlib.Core.Bool.{Bool, true, false, cond}
use mathlib.Core.List.{List, []}
use mathlib.Core.Logic.{⊎_elim}
use borrow.Author.Tests.{eqb-true, ne_eqb, ltb-true, lt-ltb, le-ltb}
use lib.Dec.{ltb, eqb}
use lib.ListN.{length}
use native.Mathlib.Nat.{eq-zero-or-pos}
use native.Mathlib.Omega.{arith}
use Rattle.figures.specs.Store.{set_count, store_refusal}
use Rattle.items.specs.Items.{content}
use Rattle.std.specs.Prelude.{Result, Ok, Err}
use Rattle.figures.specs.declared.refusal.Refusal.{Refusal}
use Rattle.figures.specs.Refusal.{number_of}
use Rattle.figures.proofs.Numbers.{numbered}
use Rattle.item_forms.specs.declared.Item.{Item}
use Rattle.item_forms.specs.declared.Item.TheVariants.{SiteItem, RoofItem, LowerItem}
use Rattle.item_rules.specs.Rules.{rule_by, rule_of}
use Rattle.ceilings.specs.declared.Ceiling.{Ceiling}
use Rattle.pairs.specs.Pairs.{Answer, accepted, refused, count, offset, size, in_turn, pairs_verdict, and_then, part, verdict_means, verdict_count}
use Rattle.pairs.specs.declared.turns.Refused.{Refused}
use Rattle.pairs.proofs.Kept.{PairsKept, pairs_kept, parts_in, not_refused, passed, both_accepted, one_refused, named_in, pair_named}
use Rattle.order.specs.Order.{Ordered, up_to}
use Rattle.order.proofs.Listing.{in_turn_lem}
use Rattle.item_forms.specs.Forms.{is_lower}
use Rattle.upper_items.specs.Uppers.{item_at, upper, stepped_in, roof_order}
use Rattle.upper_items.proofs.Lowers.{none_above}
use Rattle.upper_rules.specs.UpperRules.{uppers_verdict}
use Rattle.upper_rules.proofs.Kept.{UppersKept, uppers_kept, upper_named, roofs_ordered}
use Rattle.sheet.specs.Sheet.{ItemIn, accepts, Place, item_number, rules_verdict, store_verdict, sheet_verdict, place_by, place}

same_value : {A : Type 0} {a b : A} → accepted a ≡ accepted b → a ≡ b
same_value e = cc

no_bytes : (store : List ℕ) (i : ℕ) (p : List ℕ) → p ≡ [] → rule_of store i p ≡ 0 → ⊥
unfolding content
no_bytes store i p z e = let f : rule_of store i [] ≡ 0 = rw z at e in omega arith

-- what an item keeps that breaks no rule: its bytes are some
some : (store s : List ℕ) (i : ℕ) → item_number store s i ≡ 0 → 1 ≤ size s i
unfolding item_number content
some store s i e = ⊎_elim (λ z. let f : rule_of store i (part s i) ≡ 0 = e in absurd (no_bytes store i (part s i) (rw z) f)) (λ h. h) (eq-zero-or-pos (size s i))

-- an accepted store, and the item that a refused one names
store_passed : (store : List ℕ) (x : ℕ) → store_verdict store ≡ accepted x → store_refusal store ≡ 0
unfolding store_verdict
store_passed store x e =
    eqb-true (store_refusal store) 0 (not_refused (eqb (store_refusal store) 0) (accepted (set_count store)) (store_refusal store) 0 x e).0

store_named : (b : Bool) (n k x j : ℕ) → cond b (accepted n) (refused k 0) ≡ refused x j → j ≡ 0
store_named true n k x j e = let z : ◌≡◌ {A = ℕ} 0 1 = cc in absurd (omega arith)
store_named false n k x j e = let z : 0 ≡ j = cc in sym z

-- what an accepted sheet keeps
pub record SheetKept (store : List ℕ) (ceiling : Ceiling) (s : List ℕ) (n : ℕ) : Type 0 where
  pub accepted_store : store_refusal store ≡ 0
  pub passed : pairs_verdict ceiling s ≡ accepted n
  pub pairs : PairsKept ceiling s n
  pub sound : (i : ℕ) → i < n → item_number store s i ≡ 0
  pub some : (i : ℕ) → i < n → 1 ≤ size s i
  pub uppers : UppersKept s n

pub sheet_kept : (store : List ℕ) (ceiling : Ceiling) (s : List ℕ) (n : ℕ) → sheet_verdict store ceiling s ≡ accepted n → SheetKept store ceiling s n
unfolding sheet_verdict rules_verdict
sheet_kept store ceiling s n e =
    let walk = in_turn (item_number store s) (count s) 0 (count s) in
    let v = both_accepted (store_verdict store) (rules_verdict store ceiling s) n e in
    let a = both_accepted (pairs_verdict ceiling s) (and_then walk (uppers_verdict s (count s))) n v.2 in
    let b = both_accepted walk (uppers_verdict s (count s)) n a.2 in
    let u = uppers_kept s (count s) n b.2 in
    let p = pairs_kept ceiling s a.0 a.1 in
    let w = passed (item_number store s) (count s) 0 (count s) b.0 b.1 in
    let same : n ≡ a.0 = u.0 ∙ sym p.counted in
    let sound : (i : ℕ) → i < n → item_number store s i ≡ 0 = λ i h. w.1 i (omega arith) (omega (arith, u.0)) in
    record {
      accepted_store = store_passed store v.0 v.1;
      passed = a.1 ∙ ap accepted (sym same);
      pairs = rw same p;
      sound = sound;
      some = λ i h. some store s i (sound i h);
      uppers = rw u.0 u.1;
    }

-- an accepted sheet, by its test
pub accepted_is : (v : Answer ℕ) (n : ℕ) → accepts v n ≡ true → v ≡ accepted n
accepted_is (accepted m) n e = ap accepted (eqb-true m n e)
accepted_is (refused k i) n e = let z : ◌≡◌ {A = ℕ} 0 1 = cc in absurd (omega arith)

-- an answer of `verdict` counts no more items than the ceiling has
pub few_counted : (store : List ℕ) (ceiling : Ceiling) (s : List ℕ) (v : Result ℕ Refused) → verdict_means v ≡ sheet_verdict store ceiling s → verdict_count v ≤ ceiling.items
few_counted store ceiling s (Err why) e = omega arith
few_counted store ceiling s (Ok n) e = (sheet_kept store ceiling s n (sym e)).pairs.fit.items

-- each item of an accepted sheet lies in it and breaks no rule
pub item_in : (store : List ℕ) (ceiling : Ceiling) (s : List ℕ) (n : ℕ) → sheet_verdict store ceiling s ≡ accepted n → (i : ℕ) → i < n → ItemIn s i
item_in store ceiling s n e i h =
    let k = sheet_kept store ceiling s n e in
    record { part = parts_in k.pairs i h; store = store; sound = k.sound i h }

-- an item that is located is one of an accepted sheet's, at its pair
pub record Placed (store : List ℕ) (ceiling : Ceiling) (s : List ℕ) (x : ℕ) (p : Place) : Type 0 where
  pub items : ℕ
  pub verdict : sheet_verdict store ceiling s ≡ accepted items
  pub below : x < items
  pub there : record { start = offset s x; bytes = size s x } ≡ p

placed_by :
    (store : List ℕ) (ceiling : Ceiling) (s : List ℕ) (x : ℕ) (p : Place) (v : Answer ℕ) → sheet_verdict store ceiling s ≡ v → place_by v s x ≡ accepted p
    → Placed store ceiling s x p
unfolding place_by
placed_by store ceiling s x p (refused k i) q e = let z : ◌≡◌ {A = ℕ} 0 1 = cc in absurd (omega arith)
placed_by store ceiling s x p (accepted n) q e =
    let t = not_refused (ltb x n) (accepted (record { start = offset s x; bytes = size s x })) 12 x p e in
    record { items = n; verdict = q; below = ltb-true x n t.0; there = same_value t.1 }

pub placed : (store : List ℕ) (ceiling : Ceiling) (s : List ℕ) (x : ℕ) (p : Place) → place store ceiling s x ≡ accepted p → Placed store ceiling s x p
unfolding place
placed store ceiling s x p e = placed_by store ceiling s x p (sheet_verdict store ceiling s) refl e

-- it lies in the sheet, and is not empty
pub record InSheet (s : List ℕ) (p : Place) : Type 0 where
  pub within : p.start + p.bytes ≤ length s
  pub some : 1 ≤ p.bytes

pub located : (store : List ℕ) (ceiling : Ceiling) (s : List ℕ) (x : ℕ) (p : Place) → place store ceiling s x ≡ accepted p → InSheet s p
located store ceiling s x p e =
    let d = placed store ceiling s x p e in
    let k = sheet_kept store ceiling s d.items d.verdict in
    subst (InSheet s) d.there (record { within = (k.pairs.each x d.below).within; some = k.some x d.below })

-- and it was read with an accepted store
pub located_with : (store : List ℕ) (ceiling : Ceiling) (s : List ℕ) (x : ℕ) (p : Place) → place store ceiling s x ≡ accepted p → store_refusal store ≡ 0
located_with store ceiling s x p e =
    let d = placed store ceiling s x p e in
    (sheet_kept store ceiling s d.items d.verdict).accepted_store

-- document 02, A7: on an accepted sheet every roof is listed exactly once, and every upper roof before what stands below it
pub sheet_ordered : (store : List ℕ) (ceiling : Ceiling) (s : List ℕ) (n : ℕ) → sheet_verdict store ceiling s ≡ accepted n → Ordered (upper s n) n (roof_order s n)
sheet_ordered store ceiling s n e = roofs_ordered s n (sheet_kept store ceiling s n e).uppers

-- without an item of kind 10 the order is that of the indexes
pub index_order : (s : List ℕ) (n : ℕ) → stepped_in s n ≡ false → roof_order s n ≡ up_to (n - 1)
index_order s n e = in_turn_lem (upper s n) n (none_above s n e)

-- what the walk over the items makes of the rules behind it
module _ (store s : List ℕ) (n : ℕ) where
  pub items_refused :
      (k i : ℕ) → in_turn (item_number store s) n 0 n ≡ refused k i → refused k i ≡ and_then (in_turn (item_number store s) n 0 n) (uppers_verdict s n)
  items_refused k i e = rw e

  -- the first item is no lower roof where it breaks no rule
  pub first_site : (m : ℕ) → 1 ≤ n → in_turn (item_number store s) n 0 n ≡ accepted m → is_lower (item_at s 0) ≡ false
  unfolding item_number
  first_site m h e =
      by_item (item_at s 0) ((passed (item_number store s) n 0 n m e).1 0 (omega arith) (omega arith))
    where
      by_item : (x : Result Item Refusal) → rule_by store 0 (part s 0) x ≡ 0 → is_lower x ≡ false
      by_item (Ok (SiteItem fields)) z = refl
      by_item (Ok (RoofItem shape)) z = refl
      by_item (Ok (LowerItem lower)) z = absurd (omega arith)
      by_item (Err refusal) z = refl

  pub items_passed : (m : ℕ) → in_turn (item_number store s) n 0 n ≡ accepted m → uppers_verdict s n ≡ and_then (in_turn (item_number store s) n 0 n) (uppers_verdict s n)
  items_passed m e = rw e

-- what a verdict makes of the answers above it
module _ (store : List ℕ) (ceiling : Ceiling) (s : List ℕ) where
  pub rules_refused : (k i : ℕ) → pairs_verdict ceiling s ≡ refused k i → refused k i ≡ rules_verdict store ceiling s
  unfolding rules_verdict
  rules_refused k i e = rw e

  pub rules_items :
      (n : ℕ) → pairs_verdict ceiling s ≡ accepted n → and_then (in_turn (item_number store s) n 0 n) (uppers_verdict s n) ≡ rules_verdict store ceiling s
  unfolding rules_verdict
  rules_items n e = rw (e, (pairs_kept ceiling s n e).counted)

  pub store_accepted : store_refusal store ≡ 0 → rules_verdict store ceiling s ≡ sheet_verdict store ceiling s
  unfolding sheet_verdict store_verdict
  store_accepted h = rw h

  -- a store, pairs and items that break no rule
  pub all_accepted :
      (n m : ℕ) → store_refusal store ≡ 0 → pairs_verdict ceiling s ≡ accepted n
      → accepted m ≡ and_then (in_turn (item_number store s) n 0 n) (uppers_verdict s n) → sheet_verdict store ceiling s ≡ accepted n
  all_accepted n m k p e =
      let v : sheet_verdict store ceiling s ≡ accepted m = sym (e ∙ (rules_items n p ∙ store_accepted k)) in
      v ∙ ap accepted ((sheet_kept store ceiling s m v).pairs.counted ∙ sym (pairs_kept ceiling s n p).counted)

  pub store_refused : (refusal : Refusal) → number_of refusal ≡ store_refusal store → refused (number_of refusal) 0 ≡ sheet_verdict store ceiling s
  unfolding sheet_verdict store_verdict
  store_refused refusal e = rw (← e, ne_eqb (number_of refusal) 0 (λ z. omega (arith, numbered refusal)))

  module _ (x : ℕ) where
    pub place_refused : (k i : ℕ) → sheet_verdict store ceiling s ≡ refused k i → refused k i ≡ place store ceiling s x
    unfolding place place_by
    place_refused k i e = rw e

    pub place_none : (n : ℕ) → sheet_verdict store ceiling s ≡ accepted n → n ≤ x → refused 12 x ≡ place store ceiling s x
    unfolding place place_by
    place_none n e h = rw (e, le-ltb x n h)

    pub place_found :
        (n a b : ℕ) → sheet_verdict store ceiling s ≡ accepted n → x < n → a ≡ offset s x → b ≡ size s x
        → accepted (record { start = a; bytes = b }) ≡ place store ceiling s x
    unfolding place place_by
    place_found n a b e h f g = rw (e, lt-ltb x n h, f, g)

module _ (store : List ℕ) (ceiling : Ceiling) (s : List ℕ) (x j : ℕ) where
  items_named : (n : ℕ) → and_then (in_turn (item_number store s) n 0 n) (uppers_verdict s n) ≡ refused x j → j ≤ n
  items_named n e =
      ⊎_elim (λ (r : in_turn (item_number store s) n 0 n ≡ refused x j). omega (arith, named_in (item_number store s) n 0 n x j r))
      (λ (r : uppers_verdict s n ≡ refused x j). upper_named s n x j r)
      (one_refused (in_turn (item_number store s) n 0 n) (uppers_verdict s n) x j e)

  rules_named_by : (v : Answer ℕ) → pairs_verdict ceiling s ≡ v → rules_verdict store ceiling s ≡ refused x j → j ≤ ceiling.items
  rules_named_by (refused k i) q e = pair_named ceiling s x j (q ∙ (rules_refused store ceiling s k i q ∙ e))
  rules_named_by (accepted n) q e =
      let p = pairs_kept ceiling s n q in
      omega (arith, items_named n (rules_items store ceiling s n q ∙ e), p.fit.items)

  -- the item that a refused sheet names
  pub sheet_named : sheet_verdict store ceiling s ≡ refused x j → j ≤ ceiling.items
  unfolding sheet_verdict store_verdict
  sheet_named e =
      ⊎_elim
      (λ (r : store_verdict store ≡ refused x j). omega (arith, store_named (eqb (store_refusal store) 0) (set_count store) (store_refusal store) x j r))
      (λ (r : rules_verdict store ceiling s ≡ refused x j). rules_named_by (pairs_verdict ceiling s) refl r)
      (one_refused (store_verdict store) (rules_verdict store ceiling s) x j e)
