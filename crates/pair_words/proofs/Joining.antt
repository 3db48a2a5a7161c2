-- A pair joined to a word, and a word split into its pair.
use Prim.Native.Nat.{ℕ, ◌+◌, ◌*◌, ◌/◌, ◌%◌, ◌<◌}
use mathlib.Core.Path.{◌≡◌, ap, ◌∙◌}
use native.Mathlib.Omega.{arith}
use Rattle.pair_words.specs.Words.{join, split}
use Rattle.pair_words.specs.declared.Pair.{Pair}

-- document 02, A3: "any word that is split and put together again comes back"
pub join_split : (w : ℕ) → join (split w) ≡ w
join_split w = omega arith

-- and so does every pair of 16 bits
pub split_join : (p : Pair) → p.offset < 65536 → split (join p) ≡ p
split_join p h =
    let a : (split (join p)).offset ≡ p.offset = omega arith in
    let b : (split (join p)).size ≡ p.size = omega arith in
    rw (a, b)

-- a word of 32 bits has an offset and a length of 16 bits
pub split_short : (w : ℕ) → w < 4294967296 → ((split w).offset < 65536) × ((split w).size < 65536)
split_short w h = (omega arith, omega arith)

-- what a pair with a word's numbers is, and a word with a pair's
module _ (p : Pair) (w : ℕ) where
  pub is_split : p.offset ≡ w % 65536 → p.size ≡ w / 65536 → (p ≡ split w) × (join p ≡ w)
  is_split f g =
      let a : (split w).offset ≡ p.offset = omega arith in
      let b : (split w).size ≡ p.size = omega arith in
      (rw (a, b), omega arith)

  pub is_join : p.offset < 65536 → w ≡ p.offset + 65536 * p.size → (w ≡ join p) × (split w ≡ p)
  is_join h f =
      let a : w ≡ join p = omega arith in
      (a, ap split a ∙ split_join p h)
