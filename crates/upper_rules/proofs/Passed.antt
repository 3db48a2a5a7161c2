-- The rules on upper items, as the code finds them; a sheet without lower roofs breaks none of them.
use Prim.Native.Nat.{ℕ, ◌-◌, ◌<◌}
use mathlib.Core.Bool.{Bool, true, false, cond}
use mathlib.Core.List.{List}
use mathlib.Core.Path.{◌≡◌, refl, sym, ap, ◌∙◌}
use lib.Dec.{ltb}
use native.Mathlib.Omega.{arith}
use Rattle.figures.specs.Rules.{refused_if}
use Rattle.pairs.specs.Pairs.{accepted, refused, in_turn}
use Rattle.pairs.proofs.Walks.{walked}
use Rattle.circles.specs.Following.{upper_in, comes_back}
use Rattle.circles.proofs.Turns.{none_met}
use Rattle.item_forms.specs.Forms.{is_lower}
use Rattle.upper_items.specs.Uppers.{item_at, upper_index, upper, stepped_in}
use Rattle.upper_items.proofs.Lowers.{no_upper, none_stepped, none_above}
use Rattle.upper_rules.specs.UpperRules.{upper_number, circle_number, uppers_verdict}

module _ (s : List ℕ) (n : ℕ) where
  not_lower : (i : ℕ) → is_lower (item_at s i) ≡ false → upper_number s n i ≡ 0
  unfolding upper_number
  not_lower i e = rw e

  straight : stepped_in s n ≡ false → (i : ℕ) → 0 < i → i < n → circle_number s n i ≡ 0
  unfolding circle_number comes_back
  straight e i p q = rw (none_above s n e i q, none_met (upper s n) i n (none_above s n e 0 (omega arith)) p)

  pub none_lower : stepped_in s n ≡ false → accepted n ≡ uppers_verdict s n
  unfolding uppers_verdict
  none_lower e =
      rw (
        walked (upper_number s n) n 0 n (λ j a b. not_lower j (none_stepped s n j e (omega arith))),
        walked (circle_number s n) n 1 (n - 1) (λ j a b. straight e j a (omega arith)),
      )

  -- the first item, which is no lower roof, has none above it in the table either
  pub site_alone : (table : List ℕ) → upper_in table ≡ upper s n → is_lower (item_at s 0) ≡ false → upper_in table 0 ≡ 0
  unfolding upper
  site_alone table e f = ap (λ (up : ℕ → ℕ). up 0) e ∙ by_test (ltb 0 n)
    where
      by_test : (b : Bool) → cond b (upper_index (item_at s 0)) 0 ≡ 0
      by_test true = sym (no_upper (item_at s 0) f)
      by_test false = refl

  pub uppers_refused : (k i : ℕ) → in_turn (upper_number s n) n 0 n ≡ refused k i → refused k i ≡ uppers_verdict s n
  unfolding uppers_verdict
  uppers_refused k i e = rw e

  pub uppers_circles :
      (table : List ℕ) (m : ℕ) → upper_in table ≡ upper s n → in_turn (upper_number s n) n 0 n ≡ accepted m
      → in_turn (λ i. refused_if (comes_back (upper_in table) n i) 17) n 1 (n - 1) ≡ uppers_verdict s n
  unfolding uppers_verdict circle_number
  uppers_circles table m e f = rw (e, f)
