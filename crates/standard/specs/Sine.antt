-- The sine of a pitch in tenths of a degree: the reference, and the table's entries in millionths.
use Rattle.std.specs.Prelude.{ℕ, ◌+◌, ◌-◌, ◌*◌, ◌/◌, ◌^◌}
use Rattle.rounding.specs.Fraction.{Fraction, over}

-- x = pitch × 355/(113 × 1,800)
abbrev pub angle_num : ℕ → ℕ
angle_num pitch = pitch * 355

abbrev pub angle_den : ℕ
angle_den = 113 * 1800

-- x − x³/3! + x⁵/5! − x⁷/7! + x⁹/9! − x¹¹/11!, over the eleventh power of x's denominator times 11!: the terms that are added,
-- and those that are taken away
abbrev pub series_plus : ℕ → ℕ
series_plus n = n * (angle_den ^ 10 * 39916800) + n ^ 5 * (angle_den ^ 6 * 332640) + n ^ 9 * (angle_den ^ 2 * 110)

abbrev pub series_minus : ℕ → ℕ
series_minus n = n ^ 3 * (angle_den ^ 8 * 6652800) + n ^ 7 * (angle_den ^ 4 * 7920) + n ^ 11

-- "the reference: the series x − x³/3! + … to the eleventh power"
unfoldable pub sine_reference : ℕ → Fraction
sine_reference pitch = over (series_plus (angle_num pitch) - series_minus (angle_num pitch)) (angle_den ^ 11 * 39916800)

-- the whole number nearest to n / d
abbrev pub nearest : ℕ → ℕ → ℕ
nearest n d = (2 * n + d) / (2 * d)

-- "Each entry is the nearest whole number to the reference", in millionths
unfoldable pub sine_entry : ℕ → ℕ
sine_entry pitch = nearest (1000000 * (sine_reference pitch).num) (sine_reference pitch).den
