-- One turn of each loop: the pairs and the items so far with one more; and the bounds that an accepted sheet gives it.
use Prim.Native.Nat.{ℕ, zero, suc, ◌+◌, ◌-◌, ◌*◌, ◌/◌, ◌%◌, ◌≤◌, ◌<◌}
use mathlib.Core.List.{List, [], ◌∷◌, ◌++◌, append_assoc, append-nil}
use mathlib.Core.Path.{◌≡◌, refl, ap, sym, ◌∙◌}
use lib.ListN.{length, length-append, length-take, length-drop}
use native.Mathlib.Numerals.{add-one}
use native.Mathlib.Omega.{arith}
use Rattle.ceilings.specs.Ceilings.{terminals}
use Rattle.pairs.specs.Pairs.{count, offset, size, earliest, part}
use Rattle.pairs.proofs.Kept.{PairsKept}
use Rattle.sheet.proofs.Kept.{accepted_is, sheet_kept}
use Rattle.sheet.specs.Sheet.{SheetOf, sheet_verdict}
use Rattle.canonical_sheets.specs.Canonical.{items_from, items, bytes16, pair_of, together, pairs_from, pairs_end, sheet_of, canonical}
use Rattle.canonical_sheets.proofs.Acceptance.{part_short, last_end, whole_length}
use Rattle.canonical_sheets.proofs.ReadBack.{pairs_length, items_count}

-- one item more behind a list of items
together_append : (ps : List (List ℕ)) (p : List ℕ) → together (ps ++ (p ∷ [])) ≡ together ps ++ p
unfolding together
together_append [] p = append-nil p
together_append (q ∷ ps) p = ap (λ (l : List ℕ). q ++ l) (together_append ps p) ∙ sym (append_assoc q (together ps) p)

pairs_append : (at : ℕ) (ps : List (List ℕ)) (p : List ℕ) → pairs_from at (ps ++ (p ∷ [])) ≡ pairs_from at ps ++ pair_of (at + length (together ps)) (length p)
unfolding pairs_from together
pairs_append at [] p = let e : at + 0 ≡ at = omega arith in rw e
pairs_append at (q ∷ ps) p =
    let e : at + length q + length (together ps) ≡ at + length (q ++ together ps) = omega (arith, length-append q (together ps)) in
    ap (λ (l : List ℕ). pair_of at (length q) ++ l) (pairs_append (at + length q) ps p)
    ∙ (ap (λ (k : ℕ). pair_of at (length q) ++ (pairs_from (at + length q) ps ++ pair_of k (length p))) e
    ∙ sym (append_assoc (pair_of at (length q)) (pairs_from (at + length q) ps) (pair_of (at + length (q ++ together ps)) (length p))))

more_from : (s : List ℕ) (i k : ℕ) → items_from s i (suc k) ≡ items_from s i k ++ (part s (i + k) ∷ [])
unfolding items_from
more_from s i zero = let e : i + 0 ≡ i = omega arith in rw e
more_from s i (suc k) =
    let e : suc i + k ≡ i + suc k = omega arith in
    ap (λ (l : List (List ℕ)). part s i ∷ l) (more_from s (suc i) k ∙ ap (λ (j : ℕ). items_from s (suc i) k ++ (part s j ∷ [])) e)

module _ (s : List ℕ) (i : ℕ) where
  one_more : items_from s 0 (i + 1) ≡ items_from s 0 i ++ (part s i ∷ [])
  one_more =
      let e : 0 + i ≡ i = omega arith in
      ap (items_from s 0) (add-one i) ∙ (more_from s 0 i ∙ ap (λ (j : ℕ). items_from s 0 i ++ (part s j ∷ [])) e)

  pub items_more : together (items_from s 0 i) ++ part s i ≡ together (items_from s 0 (i + 1))
  items_more = sym (ap together one_more ∙ together_append (items_from s 0 i) (part s i))

  pub length_more : length (together (items_from s 0 (i + 1))) ≡ length (together (items_from s 0 i)) + length (part s i)
  length_more = ap length (sym items_more) ∙ length-append (together (items_from s 0 i)) (part s i)

  pub pairs_more :
      (at : ℕ) → pairs_from at (items_from s 0 i) ++ pair_of (at + length (together (items_from s 0 i))) (length (part s i)) ≡ pairs_from at (items_from s 0 (i + 1))
  pairs_more at = sym (ap (pairs_from at) one_more ∙ pairs_append at (items_from s 0 i) (part s i))

-- the bytes of a pair's word
pub word_bytes :
    (w offset size : ℕ) → w ≡ offset + 65536 * size → offset < 65536 → size < 65536
    → (w % 256 ∷ w / 256 % 256 ∷ w / 65536 % 256 ∷ w / 16777216 % 256 ∷ []) ≡ pair_of offset size
word_bytes w offset size e h g =
    let a : w % 256 ≡ offset % 256 = omega arith in
    let b : w / 256 % 256 ≡ offset / 256 = omega arith in
    let c : w / 65536 % 256 ≡ size % 256 = omega arith in
    let d : w / 16777216 % 256 ≡ size / 256 = omega arith in
    rw (a, b, c, d)

pub count_bytes : (n : ℕ) → n < 65536 → (n % 256 ∷ n / 256 % 256 ∷ []) ≡ bytes16 n
count_bytes n h = let e : n / 256 % 256 ≡ n / 256 = omega arith in rw e

-- none yet
pub no_pairs : (s : List ℕ) (at : ℕ) → pairs_from at (items_from s 0 0) ≡ []
unfolding pairs_from items_from
no_pairs s at = refl

pub no_items : (s : List ℕ) → together (items_from s 0 0) ≡ []
unfolding together items_from
no_items s = refl

-- four bytes for each pair
pub some_pairs : (s : List ℕ) (at i : ℕ) → length (pairs_from at (items_from s 0 i)) ≡ 4 * i
some_pairs s at i = omega (arith, pairs_length at (items_from s 0 i), items_count s 0 i)

-- what an accepted sheet gives
module _ (store s : List ℕ) (n : ℕ) (h : SheetOf store s n) where
  kept : PairsKept terminals s n
  kept = (sheet_kept store terminals s n (accepted_is (sheet_verdict store terminals s) n h)).pairs

  pub all_items : items_from s 0 n ≡ items s
  unfolding items
  all_items = ap (items_from s 0) kept.counted

  pub whole : length (canonical s) ≡ 2 + 4 * n + length (together (items_from s 0 n))
  whole = omega (arith, whole_length s, kept.counted, ap (λ (l : List (List ℕ)). length (together l)) all_items)

  pub parts : bytes16 n ++ pairs_from (pairs_end n) (items s) ++ together (items s) ≡ canonical s
  unfolding canonical sheet_of items
  parts =
      let e : length (items_from s 0 (count s)) ≡ n = items_count s 0 (count s) ∙ sym kept.counted in
      rw e

  pub part_whole : (i : ℕ) → i < n → length (part s i) ≡ size s i
  part_whole i g = simp (length-take, length-drop) (omega (arith, (kept.each i g).within))

  pub size_most : (i : ℕ) → i < n → size s i ≤ 16384
  size_most i g = omega (arith, (kept.each i g).within, kept.fit)

  so_far : (i : ℕ) → i ≤ n → 2 + 4 * n + length (together (items_from s 0 i)) ≤ earliest s i
  so_far zero g = omega (arith, ap length (no_items s), kept.counted)
  so_far (suc i) g =
      let e = ap (λ (k : ℕ). length (together (items_from s 0 k))) (add-one i) in
      omega (arith, e, length_more s i, part_short s i, (kept.each i (omega arith)).after, so_far i (omega arith))

  pub short_so_far : (i : ℕ) → i ≤ n → 2 + 4 * n + length (together (items_from s 0 i)) ≤ 16384
  short_so_far i g = omega (arith, so_far i g, last_end s n (omega (arith, kept.fit, kept.counted)) kept.each i g, kept.fit.bytes)

  up_to : (i k : ℕ) → i + k ≡ n → length (together (items_from s 0 i)) ≤ length (together (items s))
  up_to i zero e =
      let f : i ≡ n = omega arith in
      omega (arith, ap (λ (j : ℕ). length (together (items_from s 0 j))) f, ap (λ (l : List (List ℕ)). length (together l)) all_items)
  up_to i (suc k) e =
      let f : i + 1 + k ≡ n = omega arith in
      omega (arith, length_more s i, up_to (i + 1) k f)

  -- the next item has room where all have
  pub room_for_next : (i : ℕ) → i < n → length (together (items_from s 0 i)) + length (part s i) ≤ length (together (items s))
  room_for_next i g = omega (arith, length_more s i, up_to (i + 1) (n - (i + 1)) (omega arith))
