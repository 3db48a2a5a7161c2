-- Bytes and counts at the ceilings, and one past them.
use mathlib.Core.Bool.{true, false}
use mathlib.Core.List.{[], ◌∷◌}
use mathlib.Core.Path.{◌≡◌, refl}
use Rattle.ceilings.specs.Ceilings.{ceiling_of, fits}
use Rattle.ceilings.specs.declared.Caller.TheVariants.{Terminal, Desk}

pub desk_at : (fits (ceiling_of Desk) 2047 7 ∷ fits (ceiling_of Desk) 2048 8 ∷ []) ≡ (true ∷ true ∷ [])
desk_at = refl

pub desk_past : (fits (ceiling_of Desk) 2048 9 ∷ fits (ceiling_of Desk) 2049 8 ∷ []) ≡ (false ∷ false ∷ [])
desk_past = refl

pub terminal_at : (fits (ceiling_of Terminal) 2049 9 ∷ fits (ceiling_of Terminal) 16384 32 ∷ []) ≡ (true ∷ true ∷ [])
terminal_at = refl

pub terminal_past : (fits (ceiling_of Terminal) 16384 33 ∷ fits (ceiling_of Terminal) 16385 32 ∷ []) ≡ (false ∷ false ∷ [])
terminal_past = refl
