-- Rules by their numbers: 0 where a rule is kept, its number where it is broken.
use Rattle.std.specs.Prelude.{ℕ, Bool, cond, eqb}

-- the number of one rule
abbrev pub refused_if : Bool → ℕ → ℕ
refused_if broken number = cond broken number 0

-- two rules in their order: the first that is broken
unfoldable pub first_of : ℕ → ℕ → ℕ
first_of a b = cond (eqb a 0) b a
