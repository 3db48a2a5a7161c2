-- The digits of a number in a word of eight bytes.
use Rattle.std.specs.Prelude.{ℕ, zero, suc, ◌+◌, ◌*◌, ◌/◌, ◌%◌, List, [], ◌∷◌, ◌++◌}
use Rattle.text.specs.Text.{digit}

-- the k lowest bytes of a word, the lowest first
abbrev pub bytes_of : ℕ → ℕ → List ℕ
bytes_of zero w = []
bytes_of (suc k) w = w % 256 ∷ bytes_of k (w / 256)

-- n in k digits, with zeros in front
abbrev pub padded : ℕ → ℕ → List ℕ
padded zero n = []
padded (suc k) n = padded k (n / 10) ++ (digit n ∷ [])

-- the word of a text, its first byte the lowest
abbrev pub pack : List ℕ → ℕ
pack [] = 0
pack (d ∷ ds) = d + 256 * pack ds

-- two digits as a word, the first digit in its lowest byte
abbrev pub pair_word : ℕ → ℕ
pair_word n = digit (n / 10) + 256 * digit n
