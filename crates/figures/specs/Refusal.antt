-- The refusals by the documents' numbers.
use Rattle.std.specs.Prelude.{ℕ, ◌≡◌, Result, Ok, Err}
use Rattle.figures.specs.declared.refusal.Refusal.{Refusal}
use Rattle.figures.specs.declared.refusal.Refusal.TheVariants.{SheetLimits, Pair, UnknownKind, ItemLength, SitePlace, SiteField, Altitude, RoofField, ValleyPitch, Rise}
use Rattle.figures.specs.declared.refusal.Refusal.TheVariants.{Slice, PastTheEnd, NoArrangement, RegionOrZone, MapLoad, UpperItem, Circle, Store, NoSetBegun}

-- document 01's numbers up to 13, document 02's from 14
abbrev pub number_of : Refusal → ℕ
number_of SheetLimits = 1
number_of Pair = 2
number_of UnknownKind = 3
number_of ItemLength = 4
number_of SitePlace = 5
number_of SiteField = 6
number_of Altitude = 7
number_of RoofField = 8
number_of ValleyPitch = 9
number_of Rise = 10
number_of Slice = 11
number_of PastTheEnd = 12
number_of NoArrangement = 13
number_of RegionOrZone = 14
number_of MapLoad = 15
number_of UpperItem = 16
number_of Circle = 17
number_of Store = 18
number_of NoSetBegun = 19

abbrev pub HasNumber : Refusal → ℕ → Type 0
HasNumber refusal number = number ≡ number_of refusal

-- the number of the refusal in an answer, 0 where there is none
abbrev pub number_in : {A : Type 0} → Result A Refusal → ℕ
number_in (Ok a) = 0
number_in (Err refusal) = number_of refusal

-- an answer with the number in place of the refusal
abbrev pub numbered : {A : Type 0} → Result A Refusal → Result A ℕ
numbered (Ok a) = Ok a
numbered (Err refusal) = Err (number_of refusal)
