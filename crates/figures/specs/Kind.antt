-- The kinds of items by the documents' numbers.
use Rattle.std.specs.Prelude.{ℕ, ◌≡◌, false, Result, MatchResult}
use Rattle.figures.specs.Ranges.{within}
use Rattle.figures.specs.declared.kind.Kind.{Kind}
use Rattle.figures.specs.declared.kind.Kind.TheVariants.{Site, Monopitch, Pitched, MultiSpan, Cylindrical, Abutting, Projection, MapSite, DriftedMultiSpan, Stepped, Parapet, SmallProjection}
use Rattle.figures.specs.declared.refusal.Refusal.{Refusal}
use Rattle.figures.specs.declared.refusal.Refusal.TheVariants.{UnknownKind}

abbrev pub kind_number : Kind → ℕ
kind_number Site = 1
kind_number Monopitch = 2
kind_number Pitched = 3
kind_number MultiSpan = 4
kind_number Cylindrical = 5
kind_number Abutting = 6
kind_number Projection = 7
kind_number MapSite = 8
kind_number DriftedMultiSpan = 9
kind_number Stepped = 10
kind_number Parapet = 11
kind_number SmallProjection = 12

abbrev pub HasKindNumber : Kind → ℕ → Type 0
HasKindNumber kind number = number ≡ kind_number kind

-- the kind of this number, or 3 where no kind has it
abbrev pub NamesKind : ℕ → Result Kind Refusal → Type 0
NamesKind number r = MatchResult r (λ kind. kind_number kind ≡ number) (λ e. (e ≡ UnknownKind) × (within 1 12 number ≡ false))
