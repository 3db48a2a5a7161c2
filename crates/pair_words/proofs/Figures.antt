-- Words worked by hand: that of a site's pair on a sheet of its own (offset 6, length 14), that of four bytes that differ, and the highest.
use Prim.Native.Nat.{ℕ}
use mathlib.Core.List.{[], ◌∷◌}
use mathlib.Core.Path.{◌≡◌, refl}
use Rattle.pair_words.specs.Words.{word_of, join, split}
use Rattle.pair_words.specs.declared.Pair.{Pair}

abbrev pair : ℕ → ℕ → Pair
pair offset size = record { offset = offset; size = size }

pub put_together : (word_of 6 0 14 0 ∷ word_of 1 2 3 4 ∷ word_of 255 255 255 255 ∷ []) ≡ (917510 ∷ 67305985 ∷ 4294967295 ∷ [])
put_together = refl

pub words_split : (split 917510 ∷ split 67305985 ∷ split 4294967295 ∷ []) ≡ (pair 6 14 ∷ pair 513 1027 ∷ pair 65535 65535 ∷ [])
words_split = refl

pub pairs_joined : (join (pair 6 14) ∷ join (pair 513 1027) ∷ join (pair 65535 65535) ∷ []) ≡ (917510 ∷ 67305985 ∷ 4294967295 ∷ [])
pairs_joined = refl
