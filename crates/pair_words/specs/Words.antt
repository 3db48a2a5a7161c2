-- A pair as one word of 32 bits.
use Rattle.std.specs.Prelude.{ℕ, ◌+◌, ◌*◌, ◌/◌, ◌%◌}
use Rattle.pair_words.specs.declared.Pair.{Pair}

-- document 02, A3: "its four bytes put together into one 32-bit word first, offset + 65,536 × length"
abbrev pub word_of : ℕ → ℕ → ℕ → ℕ → ℕ
word_of first second third fourth = first + 256 * second + 65536 * (third + 256 * fourth)

-- the word of an offset and a length, "offset + 65,536 × length"
abbrev pub join : Pair → ℕ
join p = p.offset + 65536 * p.size

-- "the offset and length then split from it"
abbrev pub split : ℕ → Pair
split w = record { offset = w % 65536; size = w / 65536 }
