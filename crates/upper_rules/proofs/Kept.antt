-- What items keep whose upper items are accepted: each of these is an item that may stand above, none comes back to itself, and every
-- roof is listed once, behind its upper roof.
use Prim.Native.Nat.{ℕ, ◌-◌, ◌≤◌, ◌<◌}
use mathlib.Core.Bool.{true, false, not, ◌&&◌}
use mathlib.Core.List.{List}
use mathlib.Core.Logic.{⊎_elim}
use mathlib.Core.Path.{◌≡◌}
use borrow.Author.Tests.{ltb-true, lt-ltb, not-false}
use lib.Dec.{ltb}
use native.Mathlib.Omega.{arith}
use Rattle.figures.proofs.Laws.{both, kept}
use Rattle.stepped_roofs.specs.Stepped.{is_upper}
use Rattle.pairs.specs.Pairs.{accepted, refused, in_turn}
use Rattle.pairs.proofs.Kept.{passed, both_accepted, one_refused, named_in}
use Rattle.circles.specs.Following.{comes_back}
use Rattle.figures.proofs.Tests.{told}
use Rattle.order.specs.Order.{Ordered}
use Rattle.order.proofs.Listing.{ordered}
use Rattle.item_forms.specs.Forms.{is_lower}
use Rattle.upper_items.specs.Uppers.{item_at, upper_index, upper, roof_order}
use Rattle.upper_items.proofs.Lowers.{no_upper}
use Rattle.upper_rules.specs.UpperRules.{may_stand_above, upper_number, circle_number, uppers_verdict}

-- the upper item of a lower roof is one of the n items and may stand above it
pub record Above (s : List ℕ) (n i : ℕ) : Type 0 where
  pub item : upper_index (item_at s i) < n
  pub upper : is_upper (item_at s (upper_index (item_at s i))) ≡ true

pub stands_above : (s : List ℕ) (n i : ℕ) → upper_number s n i ≡ 0 → is_lower (item_at s i) ≡ true → Above s n i
unfolding upper_number
stands_above s n i e l =
    let u = upper_index (item_at s i) in
    let f : (is_lower (item_at s i) && not (may_stand_above s n u)) ≡ false = kept _ 16 (omega arith) e in
    let p = both (ltb u n) (is_upper (item_at s u)) (not-false _ (rw l at f)) in
    record { item = ltb-true u n p.0; upper = p.1 }

pub record UppersKept (s : List ℕ) (n : ℕ) : Type 0 where
  pub sound : (i : ℕ) → i < n → upper_number s n i ≡ 0
  pub straight : (i : ℕ) → 0 < i → i < n → comes_back (upper s n) n i ≡ false

pub uppers_kept : (s : List ℕ) (n m : ℕ) → uppers_verdict s n ≡ accepted m → (m ≡ n) × UppersKept s n
unfolding uppers_verdict circle_number
uppers_kept s n m e =
    let b = both_accepted (in_turn (upper_number s n) n 0 n) (in_turn (circle_number s n) n 1 (n - 1)) m e in
    let p = passed (upper_number s n) n 0 n b.0 b.1 in
    let q = passed (circle_number s n) n 1 (n - 1) m b.2 in (
      q.0,
      record {
        sound = λ i h. p.1 i (omega arith) (omega arith);
        straight = λ i a h. kept _ 17 (omega arith) (q.1 i (omega arith) (omega arith));
      },
    )

-- the item that a refusal names is one of them
pub upper_named : (s : List ℕ) (n x j : ℕ) → uppers_verdict s n ≡ refused x j → j ≤ n
unfolding uppers_verdict
upper_named s n x j e =
    ⊎_elim (λ (r : in_turn (upper_number s n) n 0 n ≡ refused x j). omega (arith, named_in (upper_number s n) n 0 n x j r))
    (λ (r : in_turn (circle_number s n) n 1 (n - 1) ≡ refused x j). omega (arith, named_in (circle_number s n) n 1 (n - 1) x j r))
    (one_refused (in_turn (upper_number s n) n 0 n) (in_turn (circle_number s n) n 1 (n - 1)) x j e)

module _ (s : List ℕ) (n : ℕ) (k : UppersKept s n) where
  -- upper items are items
  pub upper_below : (i : ℕ) → i < n → upper s n i < n
  unfolding upper
  upper_below i h =
      rw (lt-ltb i n h)
      (⊎_elim (λ (t : is_lower (item_at s i) ≡ true). (stands_above s n i (k.sound i h) t).item)
      (λ (t : is_lower (item_at s i) ≡ false). omega (arith, no_upper (item_at s i) t)) (told (is_lower (item_at s i))))

  pub roofs_ordered : Ordered (upper s n) n (roof_order s n)
  roofs_ordered = ordered (upper s n) n upper_below k.straight
