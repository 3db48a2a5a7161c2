-- The words of a sheet's pairs.
use Prim.Native.Nat.{ℕ, ◌+◌, ◌*◌, ◌<◌}
use mathlib.Core.Path.{◌≡◌, ap, ◌∙◌}
use mathlib.Core.List.{List}
use native.Mathlib.Omega.{arith}
use Rattle.little_endian.specs.Numbers.{byte_at}
use Rattle.pair_words.proofs.Joining.{split_join}
use Rattle.pair_words.specs.Words.{word_of, join, split}
use Rattle.pairs.specs.Words.{pair_at, word_at}

module _ (s : List ℕ) (i : ℕ) where
  -- the word of a pair's four bytes is the join of the two numbers that document 01 reads there
  pub word_join : word_at s i ≡ join (pair_at s i)
  word_join =
      let e : 2 + 4 * i + 1 ≡ 3 + 4 * i = omega arith in
      let f : 2 + 4 * i + 2 ≡ 4 + 4 * i = omega arith in
      let g : 4 + 4 * i + 1 ≡ 5 + 4 * i = omega arith in
      rw (e, f, g) (omega arith)

  -- split, it is the pair: a byte is below 256
  pub word_split :
      (w a b c d : ℕ) → w ≡ word_of (byte_at s a) (byte_at s b) (byte_at s c) (byte_at s d) → a ≡ 2 + 4 * i → b ≡ 3 + 4 * i → c ≡ 4 + 4 * i → d ≡ 5 + 4 * i
      → byte_at s (2 + 4 * i) < 256 → byte_at s (3 + 4 * i) < 256 → split w ≡ pair_at s i
  word_split w a b c d e f g h k l m =
      let z : w ≡ word_at s i = rw (f, g, h, k) at e in
      let n : 2 + 4 * i + 1 ≡ 3 + 4 * i = omega arith in
      ap split (z ∙ word_join) ∙ split_join (pair_at s i) (rw n (omega arith))
