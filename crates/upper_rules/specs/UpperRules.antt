-- The rules on upper items, over all items of a sheet: refusals 16 and 17. Document 02, A7.
use Rattle.std.specs.Prelude.{ℕ, ◌-◌, Bool, not, ◌&&◌, List, ltb}
use Rattle.figures.specs.Rules.{refused_if}
use Rattle.stepped_roofs.specs.Stepped.{is_upper}
use Rattle.pairs.specs.Pairs.{Answer, in_turn, and_then}
use Rattle.circles.specs.Following.{comes_back}
use Rattle.item_forms.specs.Forms.{is_lower}
use Rattle.upper_items.specs.Uppers.{item_at, upper_index, upper}

-- "The upper item is of kind 2, 3 or 10", and one of the n items
abbrev pub may_stand_above : List ℕ → ℕ → ℕ → Bool
may_stand_above s n i = ltb i n && is_upper (item_at s i)

-- "16 when the index is no such item"
unfoldable pub upper_number : List ℕ → ℕ → ℕ → ℕ
upper_number s n i = refused_if (is_lower (item_at s i) && not (may_stand_above s n (upper_index (item_at s i)))) 16

-- "17 when following upper items from one comes back to it"
unfoldable pub circle_number : List ℕ → ℕ → ℕ → ℕ
circle_number s n i = refused_if (comes_back (upper s n) n i) 17

-- "as a check over all items after their own rules", 17 "after 16. Both name the lowest item concerned"; item 0 is the site and stands
-- below none
unfoldable pub uppers_verdict : List ℕ → ℕ → Answer ℕ
uppers_verdict s n = and_then (in_turn (upper_number s n) n 0 n) (in_turn (circle_number s n) n 1 (n - 1))
