-- Little-endian numbers at a position of a list of bytes. Past the end stand zeros.
use Rattle.std.specs.Prelude.{ℕ, ◌+◌, ◌*◌, List, get_or}

abbrev pub byte_at : List ℕ → ℕ → ℕ
byte_at s i = get_or s i 0

abbrev pub le16 : List ℕ → ℕ → ℕ
le16 s i = byte_at s i + 256 * byte_at s (i + 1)

abbrev pub le32 : List ℕ → ℕ → ℕ
le32 s i = byte_at s i + 256 * byte_at s (i + 1) + 65536 * byte_at s (i + 2) + 16777216 * byte_at s (i + 3)
