-- A range of whole numbers, both ends included.
use Rattle.std.specs.Prelude.{ℕ, Bool, ◌&&◌, leb}

-- low ≤ x ≤ high
abbrev pub within : ℕ → ℕ → ℕ → Bool
within low high x = leb low x && leb x high
