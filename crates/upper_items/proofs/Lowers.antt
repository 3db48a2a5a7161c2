-- What the loops over a sheet's items find of lower roofs and their upper items.
use Prim.Native.Nat.{ℕ, zero, suc, ◌+◌, ◌-◌, ◌≤◌, ◌<◌}
use mathlib.Core.Bool.{Bool, true, false, ◌||◌}
use mathlib.Core.List.{List, ◌++◌}
use mathlib.Core.Logic.{⊎_elim}
use mathlib.Core.Path.{◌≡◌, refl, sym, ap, fun_ext, ◌∙◌}
use borrow.Author.Tests.{eqb-true, eqb-false, lt-ltb, le-ltb, ltb-true, ltb-false}
use lib.Dec.{ltb, eqb}
use lib.ListN.{length, drop, set, replicate, length-set}
use lib.Seq.{get_or-set_same, get_or-set_other}
use native.Mathlib.Nat.{eq-or-lt_of_le}
use native.Mathlib.Omega.{arith}
use Rattle.little_endian.specs.Numbers.{byte_at}
use Rattle.std.specs.Prelude.{Result, Ok, Err}
use Rattle.std.specs.List.{list_any, range_with_len}
use Rattle.figures.specs.declared.refusal.Refusal.{Refusal}
use Rattle.item_forms.specs.declared.Item.{Item}
use Rattle.item_forms.specs.declared.Item.TheVariants.{SiteItem, RoofItem, LowerItem}
use Rattle.items.specs.Items.{content}
use Rattle.items.proofs.Lowers.{lower_fields}
use Rattle.circles.specs.Following.{upper_in}
use Rattle.figures.proofs.Tests.{told, clash}
use Rattle.order.specs.Order.{up_to}
use Rattle.order.proofs.Listing.{in_turn_lem, upto_length}
use Rattle.order.proofs.Writing.{all_alike}
use Rattle.item_forms.specs.Forms.{is_lower}
use Rattle.upper_items.specs.Uppers.{item_at, upper_index, upper, stepped_in, roof_order}

-- the byte of an upper item's index
pub upper_byte : (p : List ℕ) → is_lower (content p) ≡ true → byte_at p 9 ≡ upper_index (content p)
upper_byte p e = sym (ap upper_index (lower_fields p e))

-- any other item has no upper item
pub no_upper : (x : Result Item Refusal) → is_lower x ≡ false → 0 ≡ upper_index x
no_upper (Ok (SiteItem fields)) e = refl
no_upper (Ok (RoofItem shape)) e = refl
no_upper (Ok (LowerItem lower)) e = clash refl e
no_upper (Err refusal) e = refl

-- where no index of a range passes a test, none of them does
neither : (a b : Bool) → (a || b) ≡ false → (a ≡ false) × (b ≡ false)
neither true b h = clash refl h
neither false b h = (refl, h)

none_of : (test : ℕ → Bool) (a n i : ℕ) → list_any test (range_with_len a n) ≡ false → a ≤ i → i < a + n → test i ≡ false
none_of test a zero i e p q = absurd (omega arith)
none_of test a (suc n) i e p q =
    let f = neither (test a) (list_any test (range_with_len (a + 1) n)) e in
    ⊎_elim (λ (w : a ≡ i). rw w at f.0) (λ (w : a < i). none_of test (a + 1) n i f.1 (omega arith) (omega arith)) (eq-or-lt_of_le p)

-- one of the items is a lower roof, or none is
module _ (s : List ℕ) where
  pub none_stepped : (n i : ℕ) → stepped_in s n ≡ false → i < n → is_lower (item_at s i) ≡ false
  unfolding stepped_in
  none_stepped n i e h = none_of (λ j. is_lower (item_at s j)) 0 n i e (omega arith) (omega arith)

  pub none_above : (n : ℕ) → stepped_in s n ≡ false → (i : ℕ) → i < n → upper s n i ≡ 0
  unfolding upper
  none_above n e i h = rw (lt-ltb i n h) (sym (no_upper (item_at s i) (none_stepped n i e h)))

-- the upper items of the first i items are in the table
pub record Filled (s : List ℕ) (i : ℕ) (table : List ℕ) : Type 0 where
  pub size : length table ≡ 32
  pub entries : upper_in table ≡ upper s i

pub filled_none : (s : List ℕ) → Filled s 0 (replicate 32 0)
unfolding upper
filled_none s = record { size = refl; entries = fun_ext (λ i. rw (le-ltb i 0 (omega arith)) (all_alike {A = ℕ} 0 32 i)) }

pub filled_turn : {s : List ℕ} {i : ℕ} {table : List ℕ} {x : ℕ} → Filled s i table → i < 32 → x ≡ upper_index (item_at s i) → Filled s (i + 1) (set table i x)
unfolding upper
filled_turn {s} {i} {table} {x} w h e = record { size = length-set table i x ∙ w.size; entries = fun_ext at }
  where
    before : (j : ℕ) → (j ≡ i → ⊥) → upper s i j ≡ upper s (i + 1) j
    before j z =
        ⊎_elim (λ (t : ltb j i ≡ true). rw (t, lt-ltb j (i + 1) (omega (arith, ltb-true j i t))))
        (λ (t : ltb j i ≡ false). rw (t, le-ltb j (i + 1) (omega (arith, ltb-false j i t, z)))) (told (ltb j i))

    at : (j : ℕ) → upper_in (set table i x) j ≡ upper s (i + 1) j
    at j =
        ⊎_elim (λ (t : eqb i j ≡ true).
        rw (← eqb-true i j t, get_or-set_same table i x 0 (omega (arith, w.size)), lt-ltb i (i + 1) (omega arith)) e)
        (λ (t : eqb i j ≡ false).
        let z : (j ≡ i → ⊥) = λ y. eqb-false i j t (sym y) in
        get_or-set_other table i j x 0 z ∙ (ap (λ (f : ℕ → ℕ). f j) w.entries ∙ before j z))
        (told (eqb i j))

-- the order, as it is written into a table of zeros
module _ (s : List ℕ) (n : ℕ) (out : List ℕ) where
  -- without a lower roof it is that of the indexes
  pub index_written :
      stepped_in s n ≡ false → out ≡ up_to (n - 1) ++ drop (n - 1) (replicate 32 0)
      → out ≡ roof_order s n ++ drop (length (roof_order s n)) (replicate 32 0)
  index_written e g = g ∙ rw (in_turn_lem (upper s n) n (none_above s n e), upto_length (n - 1))
