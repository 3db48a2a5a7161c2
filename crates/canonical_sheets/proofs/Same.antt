-- Written in the one way a sheet keeps its items, and is decided by them.
use Prim.Native.Nat.{ℕ, ◌<◌}
use mathlib.Core.List.{List}
use mathlib.Core.Path.{◌≡◌, ap, sym, ◌∙◌}
use Rattle.pairs.specs.Pairs.{count, part}
use Rattle.canonical_sheets.specs.Canonical.{items, sheet_of, canonical}
use Rattle.canonical_sheets.proofs.ReadBack.{reads_back, sheet_count, sheet_part, items_length, item_is}

-- "It reads back as the same items"
pub same_items : (s : List ℕ) → items (canonical s) ≡ items s
unfolding canonical
same_items s = reads_back (items s)

-- "Two accepted sheets give equal bytes exactly when their item lists are equal"
pub equal_items : (s t : List ℕ) → canonical s ≡ canonical t → items s ≡ items t
equal_items s t e = sym (same_items s) ∙ (ap items e ∙ same_items t)

pub equal_bytes : (s t : List ℕ) → items s ≡ items t → canonical s ≡ canonical t
unfolding canonical
equal_bytes s t e = ap sheet_of e

-- "writing twice alters nothing further"
pub twice : (s : List ℕ) → canonical (canonical s) ≡ canonical s
twice s = equal_bytes (canonical s) s (same_items s)

-- item by item
pub same_count : (s : List ℕ) → count (canonical s) ≡ count s
unfolding canonical
same_count s = sheet_count (items s) ∙ items_length s

pub same_part : (s : List ℕ) (i : ℕ) → i < count s → part (canonical s) i ≡ part s i
unfolding canonical
same_part s i h = sheet_part (items s) i (rw (items_length s) h) ∙ item_is s i h
