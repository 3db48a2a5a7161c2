-- The numbers of refusals: each has one of its own, and none is 0.
use Prim.Native.Nat.{ℕ, ◌<◌}
use mathlib.Core.List.{List, [], ◌∷◌}
use mathlib.Core.Path.{◌≡◌, refl, sym, ap, ◌∙◌}
use lib.ListN.{get_or}
use native.Mathlib.Omega.{arith}
use Rattle.figures.specs.Refusal.{number_of}
use Rattle.figures.specs.declared.refusal.Refusal.{Refusal}
use Rattle.figures.specs.declared.refusal.Refusal.TheVariants.{SheetLimits, Pair, UnknownKind, ItemLength, SitePlace, SiteField, Altitude, RoofField, ValleyPitch, Rise}
use Rattle.figures.specs.declared.refusal.Refusal.TheVariants.{Slice, PastTheEnd, NoArrangement, RegionOrZone, MapLoad, UpperItem, Circle, Store, NoSetBegun}

pub numbered : (e : Refusal) → 0 < number_of e
numbered SheetLimits = omega arith
numbered Pair = omega arith
numbered UnknownKind = omega arith
numbered ItemLength = omega arith
numbered SitePlace = omega arith
numbered SiteField = omega arith
numbered Altitude = omega arith
numbered RoofField = omega arith
numbered ValleyPitch = omega arith
numbered Rise = omega arith
numbered Slice = omega arith
numbered PastTheEnd = omega arith
numbered NoArrangement = omega arith
numbered RegionOrZone = omega arith
numbered MapLoad = omega arith
numbered UpperItem = omega arith
numbered Circle = omega arith
numbered Store = omega arith
numbered NoSetBegun = omega arith

-- the refusals in the order of their numbers, from 1
refusals : List Refusal
refusals =
    SheetLimits ∷ Pair ∷ UnknownKind ∷ ItemLength ∷ SitePlace ∷ SiteField ∷ Altitude ∷ RoofField ∷ ValleyPitch ∷ Rise ∷
    Slice ∷ PastTheEnd ∷ NoArrangement ∷ RegionOrZone ∷ MapLoad ∷ UpperItem ∷ Circle ∷ Store ∷ NoSetBegun ∷ []

-- the refusal of a number
abbrev of_number : ℕ → Refusal
of_number n = get_or (SheetLimits ∷ refusals) n SheetLimits

found : (e : Refusal) → of_number (number_of e) ≡ e
unfolding refusals
found SheetLimits = refl
found Pair = refl
found UnknownKind = refl
found ItemLength = refl
found SitePlace = refl
found SiteField = refl
found Altitude = refl
found RoofField = refl
found ValleyPitch = refl
found Rise = refl
found Slice = refl
found PastTheEnd = refl
found NoArrangement = refl
found RegionOrZone = refl
found MapLoad = refl
found UpperItem = refl
found Circle = refl
found Store = refl
found NoSetBegun = refl

pub one_number : (a b : Refusal) → number_of a ≡ number_of b → a ≡ b
one_number a b e = sym (found a) ∙ (ap of_number e ∙ found b)
