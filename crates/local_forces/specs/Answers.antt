-- What the answers of the calls stand for.
use Rattle.std.specs.Prelude.{ℕ, Option, Some, None, Result, Ok, Err}
use Rattle.figures.specs.Refusal.{number_of}
use Rattle.figures.specs.declared.refusal.Refusal.{Refusal}
use Rattle.standard.specs.Forces.{Force, force, none, refused}

-- a force in N/m, or none
abbrev pub force_or_none : Option ℕ → Force
force_or_none (Some newtons) = force newtons
force_or_none None = none

-- the same of a call that may refuse its figures
abbrev pub force_means : Result (Option ℕ) Refusal → Force
force_means (Ok answer) = force_or_none answer
force_means (Err refusal) = refused (number_of refusal)
