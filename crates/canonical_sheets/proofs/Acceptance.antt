-- A sheet of sound pairs, written in the one way, is no longer than it was, and has the same verdict.
use Prim.Native.Nat.{ℕ, zero, suc, ◌+◌, ◌*◌, ◌≤◌, ◌<◌}
use mathlib.Core.Bool.{true}
use mathlib.Core.List.{List, [], ◌∷◌}
use mathlib.Core.Path.{◌≡◌, ap, sym, ◌∙◌}
use borrow.Author.Tests.{le-leb}
use lib.ListN.{length, length-append, length-take}
use native.Mathlib.Omega.{arith}
use Rattle.ceilings.specs.Ceilings.{fits}
use Rattle.ceilings.specs.declared.Ceiling.{Ceiling}
use Rattle.item_rules.specs.Rules.{rule_of}
use Rattle.items.specs.Items.{content}
use Rattle.pairs.specs.Pairs.{accepted, count, offset, size, earliest, pair_number, pairs_verdict, part}
use Rattle.pairs.proofs.Walks.{walked}
use Rattle.pairs.proofs.Kept.{PairKept, PairsKept, pairs_kept}
use Rattle.sheet.specs.Sheet.{item_number, sheet_verdict}
use Rattle.sheet.proofs.Alike.{AlikeSheets}
use Rattle.sheet.proofs.Alike as alike
use Rattle.sheet.proofs.Kept.{sheet_kept}
use Rattle.canonical_sheets.specs.Canonical.{items_from, items, together, pairs_end, sheet_of, canonical}
use Rattle.canonical_sheets.proofs.ReadBack.{length_to, item_in, pairs_length, sheet_count, sheet_offset, sheet_size, items_length}
use Rattle.canonical_sheets.proofs.Same.{same_part}

-- an item ends where the next begins, and within the items' bytes
next_start : (ps : List (List ℕ)) (i : ℕ) → i < length ps → length_to ps (suc i) ≡ length_to ps i + length (item_in ps i)
next_start [] i h = absurd (omega arith)
next_start (p ∷ ps) zero h = omega arith
next_start (p ∷ ps) (suc i) h = omega (arith, next_start ps i (omega arith))

ends_within : (ps : List (List ℕ)) (i : ℕ) → i < length ps → length_to ps i + length (item_in ps i) ≤ length (together ps)
unfolding together
ends_within [] i h = absurd (omega arith)
ends_within (p ∷ ps) zero h = simp length-append (omega arith)
ends_within (p ∷ ps) (suc i) h = simp length-append (omega (arith, ends_within ps i (omega arith)))

sheet_length : (ps : List (List ℕ)) → length (sheet_of ps) ≡ 2 + 4 * length ps + length (together ps)
unfolding sheet_of
sheet_length ps = simp length-append (omega (arith, pairs_length (pairs_end (length ps)) ps))

pub whole_length : (s : List ℕ) → length (canonical s) ≡ 2 + 4 * count s + length (together (items s))
unfolding canonical
whole_length s = omega (arith, sheet_length (items s), items_length s)

-- a pair that keeps the rule of offsets
pair_sound : (s : List ℕ) (i : ℕ) → earliest s i ≤ offset s i → offset s i + size s i ≤ length s → pair_number s i ≡ 0
unfolding pair_number
pair_sound s i a b = rw (le-leb (earliest s i) (offset s i) a, le-leb (offset s i + size s i) (length s) b)

-- each pair of the written sheet does
pair_kept : (ps : List (List ℕ)) (i : ℕ) → i < length ps → pair_number (sheet_of ps) i ≡ 0
pair_kept ps zero h =
    pair_sound (sheet_of ps) 0
    (omega (arith, sheet_count ps, sheet_offset ps 0 h))
    (omega (arith, sheet_offset ps 0 h, sheet_size ps 0 h, sheet_length ps, ends_within ps 0 h))
pair_kept ps (suc i) h =
    let g : i < length ps = omega arith in
    pair_sound (sheet_of ps) (suc i)
    (omega (arith, sheet_offset ps i g, sheet_size ps i g, sheet_offset ps (suc i) h, next_start ps i g))
    (omega (arith, sheet_offset ps (suc i) h, sheet_size ps (suc i) h, sheet_length ps, ends_within ps (suc i) h))

pub part_short : (s : List ℕ) (i : ℕ) → length (part s i) ≤ size s i
part_short s i = simp length-take (omega arith)

-- the items of kept pairs have room between the pairs and the end
module _ (s : List ℕ) (n : ℕ) (first : 2 + 4 * count s ≤ length s) (each : (i : ℕ) → i < n → PairKept s i) where
  pub last_end : (i : ℕ) → i ≤ n → earliest s i ≤ length s
  last_end zero h = first
  last_end (suc i) h = (each i (omega arith)).within

  room_from : (k i : ℕ) → i + k ≡ n → earliest s i + length (together (items_from s i k)) ≤ length s
  unfolding together items_from
  room_from zero i e = omega (arith, last_end i (omega arith))
  room_from (suc k) i e = simp length-append (omega (arith, (each i (omega arith)).after, part_short s i, room_from k (suc i) (omega arith)))

fits_yes : (ceiling : Ceiling) (b n : ℕ) → b ≤ ceiling.bytes → 1 ≤ n → n ≤ ceiling.items → 2 + 4 * n ≤ b → fits ceiling b n ≡ true
fits_yes ceiling b n p q r t =
    rw (le-leb 2 b (omega arith), le-leb b ceiling.bytes p, le-leb 1 n q, le-leb n ceiling.items r, le-leb (2 + 4 * n) b t)

module _ (s : List ℕ) (ceiling : Ceiling) (n : ℕ) (h : pairs_verdict ceiling s ≡ accepted n) where
  kept : PairsKept ceiling s n
  kept = pairs_kept ceiling s n h

  pub no_longer : length (canonical s) ≤ length s
  unfolding items
  no_longer =
      let k = kept in
      let r : 2 + 4 * count s + length (together (items s)) ≤ length s =
      room_from s (count s) (omega (arith, k.fit, k.counted)) (λ i g. k.each i (omega (arith, k.counted))) (count s) 0 (omega arith) in
      omega (arith, whole_length s)

  pairs_accepted : pairs_verdict ceiling (canonical s) ≡ accepted n
  unfolding pairs_verdict canonical
  pairs_accepted =
      let k = kept in
      let e : count (sheet_of (items s)) ≡ n = sheet_count (items s) ∙ (items_length s ∙ sym k.counted) in
      let f : fits ceiling (length (sheet_of (items s))) n ≡ true =
      fits_yes ceiling (length (sheet_of (items s))) n (omega (arith, k.fit.bytes, no_longer)) k.fit.some k.fit.items (omega (arith, sheet_length (items s), items_length s, k.counted)) in
      rw (e, f) (walked (pair_number (sheet_of (items s))) n 0 n (λ j a b. pair_kept (items s) j (omega (arith, items_length s, k.counted))))

  -- the items of the written sheet are those of the sheet
  pub written_alike : (store : List ℕ) → AlikeSheets store ceiling (canonical s) s n
  unfolding item_number
  written_alike store =
      let k = kept in
      let same : (i : ℕ) → i < n → part (canonical s) i ≡ part s i = λ i b. same_part s i (omega (arith, k.counted)) in
      record {
        pairs = pairs_accepted;
        other_pairs = h;
        number = ap (rule_of store 0) (same 0 k.fit.some);
        first = λ f g. ap (λ (p : List ℕ). f (content p)) (same 0 k.fit.some);
        others = λ i a b. same i b;
      }

  -- a sheet of sound pairs gets the verdict that it got
  pub same_verdict : (store : List ℕ) → sheet_verdict store ceiling (canonical s) ≡ sheet_verdict store ceiling s
  same_verdict store = alike.same_verdict (written_alike store)

-- "It reads back": the result of an accepted sheet is accepted, with the same count
pub still_accepted : (store s : List ℕ) (ceiling : Ceiling) (n : ℕ) → sheet_verdict store ceiling s ≡ accepted n → sheet_verdict store ceiling (canonical s) ≡ accepted n
still_accepted store s ceiling n e = same_verdict s ceiling n (sheet_kept store ceiling s n e).passed store ∙ e
