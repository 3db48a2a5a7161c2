-- A sheet with a map site beside the sheet with the kind 1 site of its load.
use Rattle.std.specs.Prelude.{ℕ, ◌/◌, ◌%◌, ◌<◌, true, cond, List, [], ◌∷◌, ◌≡◌, eqb, length}
use Rattle.little_endian.specs.Numbers.{byte_at}
use Rattle.site_items.specs.SiteItems.{site_length}
use Rattle.ceilings.specs.Ceilings.{terminals}
use Rattle.pairs.specs.Pairs.{accepted, pairs_verdict, part}
use Rattle.sheet.specs.Sheet.{item_number}
use Rattle.sheet_figures.specs.Find.{sheet_site}

-- the two bytes of a kind 8 item's day, where it has them
abbrev pub day_bytes : List ℕ → List ℕ
day_bytes p = cond (eqb (length p) 14) (byte_at p 12 ∷ byte_at p 13 ∷ []) []

-- "the kind 1 site with it": the bytes of the kind 1 item with a ground load below 65,536 and a kind 8 item's fields from Ce on
unfoldable pub given_item : ℕ → List ℕ → List ℕ
given_item sk p =
    1 ∷ sk % 256 ∷ sk / 256 ∷ 0 ∷ 0 ∷
    byte_at p 3 ∷ byte_at p 4 ∷ byte_at p 5 ∷ byte_at p 6 ∷ byte_at p 7 ∷ byte_at p 8 ∷ byte_at p 9 ∷ byte_at p 10 ∷ byte_at p 11 ∷ day_bytes p

-- s and t have n items each, at sound pairs; the first of s is a map site that breaks no rule with a store, that of t the kind 1 site with
-- its load, and behind it the items are equal
pub record GivenLoad (store s t : List ℕ) (n : ℕ) : Type 0 where
  pub pairs : pairs_verdict terminals s ≡ accepted n
  pub given_pairs : pairs_verdict terminals t ≡ accepted n
  pub bytes : site_length 12 (length (part s 0)) ≡ true
  pub kind : byte_at (part s 0) 0 ≡ 8
  pub sound : item_number store s 0 ≡ 0
  pub given : part t 0 ≡ given_item (sheet_site s).sk (part s 0)
  pub others : (i : ℕ) → 0 < i → i < n → part s i ≡ part t i
