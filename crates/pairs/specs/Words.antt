-- The pairs of a sheet as words.
use Rattle.std.specs.Prelude.{ℕ, ◌+◌, ◌*◌, List}
use Rattle.little_endian.specs.Numbers.{byte_at}
use Rattle.pair_words.specs.Words.{word_of}
use Rattle.pair_words.specs.declared.Pair.{Pair}
use Rattle.pairs.specs.Pairs.{offset, size}

-- pair i of a sheet, by document 01's two numbers
abbrev pub pair_at : List ℕ → ℕ → Pair
pair_at s i = record { offset = offset s i; size = size s i }

-- the word of pair i: document 02, A3, "its four bytes put together into one 32-bit word first"
abbrev pub word_at : List ℕ → ℕ → ℕ
word_at s i = word_of (byte_at s (2 + 4 * i)) (byte_at s (3 + 4 * i)) (byte_at s (4 + 4 * i)) (byte_at s (5 + 4 * i))
