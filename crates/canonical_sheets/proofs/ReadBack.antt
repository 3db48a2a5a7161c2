-- The sheet of a list of items reads back: its count, its pairs and its items.
use Prim.Native.Nat.{ℕ, zero, suc, ◌+◌, ◌*◌, ◌<◌}
use mathlib.Core.List.{List, [], ◌∷◌, ◌++◌}
use mathlib.Core.Path.{◌≡◌, refl, ap, ◌∙◌, subst}
use lib.ListN.{length, get_or, take, drop}
use lib.Seq.{take-append_seam, drop-append-add, get_or-append-add}
use native.Mathlib.Omega.{arith}
use Rattle.little_endian.specs.Numbers.{le16}
use Rattle.pairs.specs.Pairs.{count, offset, size, part}
use Rattle.canonical_sheets.specs.Canonical.{items_from, items, bytes16, pair_of, together, pairs_from, pairs_end, sheet_of}

-- the length of the items before item i
abbrev pub length_to : List (List ℕ) → ℕ → ℕ
length_to ps zero = 0
length_to [] (suc i) = 0
length_to (p ∷ ps) (suc i) = length p + length_to ps i

abbrev pub item_in : List (List ℕ) → ℕ → List ℕ
item_in ps i = get_or ps i []

pub pairs_length : (at : ℕ) (ps : List (List ℕ)) → length (pairs_from at ps) ≡ 4 * length ps
unfolding pairs_from
pairs_length at [] = refl
pairs_length at (p ∷ ps) = omega (arith, pairs_length (at + length p) ps)

-- a number behind a front of the list
past : (xs l : List ℕ) (j : ℕ) → le16 (xs ++ l) (length xs + j) ≡ le16 l j
past xs l j =
    let e : length xs + j + 1 ≡ length xs + (j + 1) = omega arith in
    rw (e, get_or-append-add xs l j 0, get_or-append-add xs l (j + 1) 0)

-- pair i, read from the pairs and what stands behind them
offset_in : (ps : List (List ℕ)) (at : ℕ) (l : List ℕ) (i : ℕ) → i < length ps → le16 (pairs_from at ps ++ l) (4 * i) ≡ at + length_to ps i
unfolding pairs_from
offset_in [] at l i h = absurd (omega arith)
offset_in (p ∷ ps) at l zero h = omega arith
offset_in (p ∷ ps) at l (suc i) h =
    let e : 4 * suc i ≡ 4 + 4 * i = omega arith in
    rw e (past (pair_of at (length p)) (pairs_from (at + length p) ps ++ l) (4 * i) ∙ (offset_in ps (at + length p) l i (omega arith) ∙ omega arith))

size_in : (ps : List (List ℕ)) (at : ℕ) (l : List ℕ) (i : ℕ) → i < length ps → le16 (pairs_from at ps ++ l) (4 * i + 2) ≡ length (item_in ps i)
unfolding pairs_from
size_in [] at l i h = absurd (omega arith)
size_in (p ∷ ps) at l zero h = omega arith
size_in (p ∷ ps) at l (suc i) h =
    let e : 4 * suc i + 2 ≡ 4 + (4 * i + 2) = omega arith in
    rw e (past (pair_of at (length p)) (pairs_from (at + length p) ps ++ l) (4 * i + 2) ∙ size_in ps (at + length p) l i (omega arith))

-- item i, read from the items' bytes
item_there : (ps : List (List ℕ)) (i : ℕ) → i < length ps → take (length (item_in ps i)) (drop (length_to ps i) (together ps)) ≡ item_in ps i
unfolding together
item_there [] i h = absurd (omega arith)
item_there (p ∷ ps) zero h = take-append_seam p (together ps)
item_there (p ∷ ps) (suc i) h = rw (drop-append-add p (together ps) (length_to ps i)) (item_there ps i (omega arith))

module _ (ps : List (List ℕ)) where
  pub sheet_count : count (sheet_of ps) ≡ length ps
  unfolding sheet_of
  sheet_count = omega arith

  module _ (i : ℕ) (h : i < length ps) where
    pub sheet_offset : offset (sheet_of ps) i ≡ 2 + 4 * length ps + length_to ps i
    unfolding sheet_of
    sheet_offset =
        let l = pairs_from (pairs_end (length ps)) ps ++ together ps in
        past (bytes16 (length ps)) l (4 * i) ∙ (offset_in ps (pairs_end (length ps)) (together ps) i h ∙ omega arith)

    pub sheet_size : size (sheet_of ps) i ≡ length (item_in ps i)
    unfolding sheet_of
    sheet_size =
        let l = pairs_from (pairs_end (length ps)) ps ++ together ps in
        let e : 2 + 4 * i + 2 ≡ 2 + (4 * i + 2) = omega arith in
        rw e (past (bytes16 (length ps)) l (4 * i + 2) ∙ size_in ps (pairs_end (length ps)) (together ps) i h)

    behind_pairs : drop (2 + 4 * length ps + length_to ps i) (sheet_of ps) ≡ drop (length_to ps i) (together ps)
    unfolding sheet_of
    behind_pairs =
        let q = pairs_from (pairs_end (length ps)) ps in
        let e : 2 + 4 * length ps + length_to ps i ≡ suc (suc (length q + length_to ps i)) = omega (arith, pairs_length (pairs_end (length ps)) ps) in
        rw e (drop-append-add q (together ps) (length_to ps i))

    pub sheet_part : part (sheet_of ps) i ≡ item_in ps i
    sheet_part = rw (sheet_offset, sheet_size, behind_pairs) (item_there ps i h)

-- a sheet whose parts from i on are given has them as its items
items_are : (s : List ℕ) (i : ℕ) (ps : List (List ℕ)) → ((j : ℕ) → j < length ps → part s (i + j) ≡ item_in ps j) → items_from s i (length ps) ≡ ps
unfolding items_from
items_are s i [] same = refl
items_are s i (p ∷ ps) same =
    let e : i + 0 ≡ i = omega arith in
    let first : part s i ≡ p = subst (λ (k : ℕ). part s k ≡ p) e (same 0 (omega arith)) in
    let next : (j : ℕ) → i + suc j ≡ suc i + j = λ j. omega arith in
    let rest : (j : ℕ) → j < length ps → part s (suc i + j) ≡ item_in ps j = λ j h. rw (next j) at (same (suc j) (omega arith)) in
    rw (first, items_are s (suc i) ps rest)

-- the sheet of a list of items has these items
pub reads_back : (ps : List (List ℕ)) → items (sheet_of ps) ≡ ps
unfolding items
reads_back ps = rw (sheet_count ps) (items_are (sheet_of ps) 0 ps (λ j h. let e : 0 + j ≡ j = omega arith in rw e (sheet_part ps j h)))

pub items_count : (s : List ℕ) (i k : ℕ) → length (items_from s i k) ≡ k
unfolding items_from
items_count s i zero = refl
items_count s i (suc k) = ap suc (items_count s (suc i) k)

items_at : (s : List ℕ) (i k j : ℕ) → j < k → item_in (items_from s i k) j ≡ part s (i + j)
unfolding items_from
items_at s i zero j h = absurd (omega arith)
items_at s i (suc k) zero h = let e : i + 0 ≡ i = omega arith in rw e
items_at s i (suc k) (suc j) h = let e : i + suc j ≡ suc i + j = omega arith in rw e (items_at s (suc i) k j (omega arith))

module _ (s : List ℕ) where
  pub items_length : length (items s) ≡ count s
  unfolding items
  items_length = items_count s 0 (count s)

  pub item_is : (i : ℕ) → i < count s → item_in (items s) i ≡ part s i
  unfolding items
  item_is i h =
      let e : 0 + i ≡ i = omega arith in
      items_at s 0 (count s) i h ∙ ap (part s) e
