-- The parts that loads are counted in, and the largest figures: each is said here alone.
use Rattle.std.specs.Prelude.{ℕ, ◌*◌}

-- how many parts a N/m² has: "A part's load is to be rounded up to a tenth of a N/m²" (document 02, A4)
abbrev pub parts : ℕ
parts = 10

-- no part of a load is larger, in tenths, whatever the national figures: 80 × 25,000 × 3.6 N/m²
abbrev pub largest_part : ℕ
largest_part = parts * 7200000

-- a break load has two parts at most
abbrev pub largest_break : ℕ
largest_break = 2 * largest_part

-- so no load that is returned is larger, in N/m²
abbrev pub largest_load : ℕ
largest_load = 2 * 7200000

-- no roof is longer, in quarter millimetres: 32 slopes of 100,000 mm
abbrev pub largest_position : ℕ
largest_position = 12800000
