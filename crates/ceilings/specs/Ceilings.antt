-- The ceilings of those who read a sheet, and refusal 1.
use Rattle.std.specs.Prelude.{ℕ, ◌+◌, ◌*◌, Bool, ◌&&◌, leb}
use Rattle.figures.specs.Ranges.{within}
use Rattle.ceilings.specs.declared.Caller.{Caller}
use Rattle.ceilings.specs.declared.Caller.TheVariants.{Terminal, Desk}
use Rattle.ceilings.specs.declared.Ceiling.{Ceiling}

-- "A sheet has 2 to 16,384 bytes", "the count n, 1 to 32"; document 02, A6: "The terminals keep 32 and 16,384"
abbrev pub terminals : Ceiling
terminals = record { items = 32; bytes = 16384 }

-- document 02, A6: "Our quote desk .. at most 8 items and 2,048 bytes"
abbrev pub desk : Ceiling
desk = record { items = 8; bytes = 2048 }

-- "the ceiling of the caller that reads it"
abbrev pub ceiling_of : Caller → Ceiling
ceiling_of Terminal = terminals
ceiling_of Desk = desk

-- a sheet's bytes and its n within their limits, and the pairs fit in the sheet: otherwise 1. Document 02, A6:
-- "1 when the sheet passes the ceiling of the caller that reads it"
abbrev pub fits : Ceiling → ℕ → ℕ → Bool
fits ceiling bytes n = within 2 ceiling.bytes bytes && within 1 ceiling.items n && leb (2 + 4 * n) bytes

-- "A sheet inside the desk's ceiling": its bytes and its n pass neither limit of a ceiling
abbrev pub inside : Ceiling → ℕ → ℕ → Bool
inside ceiling bytes n = leb bytes ceiling.bytes && leb n ceiling.items
