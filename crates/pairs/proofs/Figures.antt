-- Counts and bytes at the desk's ceiling and beside it.
use Prim.Native.Nat.{ℕ, zero, suc, ◌+◌, ◌-◌, ◌*◌}
use mathlib.Core.List.{List, [], ◌∷◌, ◌++◌}
use mathlib.Core.Path.{◌≡◌, refl}
use lib.ListN.{length, replicate}
use Rattle.ceilings.specs.Ceilings.{ceiling_of}
use Rattle.ceilings.specs.declared.Caller.{Caller}
use Rattle.ceilings.specs.declared.Caller.TheVariants.{Terminal, Desk}
use Rattle.pairs.specs.Pairs.{Answer, accepted, refused, pair_number, in_turn, pairs_verdict}

-- k pairs of an empty item at an offset
abbrev pairs_at : ℕ → ℕ → List ℕ
pairs_at offset zero = []
pairs_at offset (suc k) = offset ∷ 0 ∷ 0 ∷ 0 ∷ pairs_at offset k

-- n such pairs, at their own end, and bytes behind them
abbrev sheet_of : ℕ → ℕ → List ℕ
sheet_of n bytes = n ∷ 0 ∷ (pairs_at (2 + 4 * n) n ++ replicate (bytes - (2 + 4 * n)) 0)

abbrev read : Caller → ℕ → ℕ → Answer ℕ
read caller n bytes = pairs_verdict (ceiling_of caller) (sheet_of n bytes)

pub bytes_of : (length (sheet_of 7 2047) ∷ length (sheet_of 8 2048) ∷ length (sheet_of 9 2049) ∷ []) ≡ (2047 ∷ 2048 ∷ 2049 ∷ [])
bytes_of = refl

pub desk_reads :
    (read Desk 7 2047 ∷ read Desk 8 2048 ∷ read Desk 9 2048 ∷ read Desk 8 2049 ∷ [])
    ≡ (accepted 7 ∷ accepted 8 ∷ refused 1 0 ∷ refused 1 0 ∷ [])
unfolding pairs_verdict in_turn pair_number
desk_reads = refl

pub terminal_reads :
    (read Terminal 8 2048 ∷ read Terminal 9 2048 ∷ read Terminal 8 2049 ∷ [])
    ≡ (accepted 8 ∷ accepted 9 ∷ accepted 8 ∷ [])
unfolding pairs_verdict in_turn pair_number
terminal_reads = refl
