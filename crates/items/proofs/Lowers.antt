-- Which items are lower roofs: kind 10 and 11 bytes, by which their fields are known too.
use Prim.Native.Nat.{ℕ}
use mathlib.Core.Bool.{true, false}
use mathlib.Core.List.{List}
use mathlib.Core.Logic.{⊎_elim}
use mathlib.Core.Path.{◌≡◌, refl, sym, ◌∙◌}
use borrow.Author.Tests.{eq-eqb, eqb-true, ne_eqb}
use lib.Dec.{eqb}
use lib.ListN.{length}
use Rattle.std.specs.Prelude.{Result, Ok}
use Rattle.figures.proofs.Tests.{told, clash}
use Rattle.figures.specs.declared.refusal.Refusal.{Refusal}
use Rattle.little_endian.specs.Numbers.{byte_at}
use Rattle.item_forms.specs.Forms.{is_lower}
use Rattle.item_forms.specs.declared.Item.{Item}
use Rattle.item_forms.specs.declared.Item.TheVariants.{LowerItem}
use Rattle.roof_items.specs.RoofItems.{lower_at, lower_item}
use Rattle.items.specs.Items.{by_kind, content}
use Rattle.items.proofs.Numbered.{by_content}

module _ (p : List ℕ) where
  -- a lower roof is told by its kind and its length
  lower_told : is_lower (content p) ≡ true → (byte_at p 0 ≡ 10) × (length p ≡ 11)
  lower_told =
      by_content (λ (d : Result Item Refusal). is_lower d ≡ true → (byte_at p 0 ≡ 10) × (length p ≡ 11)) p (λ e h. clash h refl)
      (λ fields h. clash h refl) (λ shape t h. clash h refl) (λ fields k l h. (k, l))

  -- and then its fields are these
  pub lower_fields : is_lower (content p) ≡ true → content p ≡ Ok (LowerItem (lower_at p))
  unfolding content by_kind lower_item
  lower_fields e = rw ((lower_told e).1, (lower_told e).0)

  pub lower_length : is_lower (content p) ≡ true → length p ≡ 11
  lower_length e = (lower_told e).1

  lower_is : length p ≡ 11 → byte_at p 0 ≡ 10 → is_lower (content p) ≡ true
  unfolding content by_kind lower_item
  lower_is l k = rw (l, k)

  pub other_length : (length p ≡ 11 → ⊥) → eqb (length p) 11 ≡ is_lower (content p)
  other_length h =
      ⊎_elim (λ (t : is_lower (content p) ≡ true). absurd (h (lower_told t).1))
      (λ (t : is_lower (content p) ≡ false). ne_eqb (length p) 11 h ∙ sym t) (told (is_lower (content p)))

  pub by_its_kind : length p ≡ 11 → eqb (byte_at p 0) 10 ≡ is_lower (content p)
  by_its_kind l =
      ⊎_elim (λ (t : is_lower (content p) ≡ true). eq-eqb (byte_at p 0) 10 (lower_told t).0 ∙ sym t)
      (λ (t : is_lower (content p) ≡ false).
      ⊎_elim (λ (k : eqb (byte_at p 0) 10 ≡ true). clash (lower_is l (eqb-true (byte_at p 0) 10 k)) t)
      (λ (k : eqb (byte_at p 0) 10 ≡ false). k ∙ sym t) (told (eqb (byte_at p 0) 10)))
      (told (is_lower (content p)))
