-- The sine's reference and the table's entries: how near they are, for every pitch, and what one test tells of the pitches that a roof has.
use Prim.Native.Nat.{ℕ, ◌+◌, ◌*◌, ◌≤◌, ◌<◌}
use mathlib.Core.Bool.{Bool}
use lib.Dec.{T, leb, leb→le, lit<}
use native.Mathlib.Nat.{div-mul-le_self, lt-div-mul-add}
use native.Mathlib.Omega.{arith}
use Rattle.rounding.specs.Fraction.{Fraction}
use Rattle.standard.specs.Sine.{angle_num, series_plus, series_minus, sine_reference, nearest, sine_entry}
use Rattle.rounding.proofs.Tested.{both, both_left, both_right, every_at}

-- a count e of millionths is within half a millionth of f
pub record HalfMillionth (e : ℕ) (f : Fraction) : Type 0 where
  pub positive : 0 < f.den
  pub low : 2 * (1000000 * f.num) ≤ (2 * e + 1) * f.den
  pub high : 2 * e * f.den ≤ 2 * (1000000 * f.num) + f.den

nearest_low : (n d : ℕ) → 0 < d → 2 * n ≤ (2 * nearest n d + 1) * d
nearest_low n d h = omega (arith, lt-div-mul-add {a = 2 * n + d} {b = 2 * d} (omega arith))

nearest_high : (n d : ℕ) → 0 < d → 2 * nearest n d * d ≤ 2 * n + d
nearest_high n d h = omega (arith, div-mul-le_self (2 * n + d) (2 * d))

pub reference_positive : (pitch : ℕ) → 0 < (sine_reference pitch).den
unfolding sine_reference
reference_positive pitch = lit< tt

-- "Each entry is the nearest whole number to the reference"
pub sine_nearest : (pitch : ℕ) → HalfMillionth (sine_entry pitch) (sine_reference pitch)
unfolding sine_entry
sine_nearest pitch =
    let h = reference_positive pitch in
    record {
      positive = h;
      low = nearest_low (1000000 * (sine_reference pitch).num) (sine_reference pitch).den h;
      high = nearest_high (1000000 * (sine_reference pitch).num) (sine_reference pitch).den h;
    }

-- The test at one pitch: no more is taken away from the series than is added, and the entry is at most 1,000,000.
series? : ℕ → Bool
series? pitch = leb (series_minus (angle_num pitch)) (series_plus (angle_num pitch))

entry? : ℕ → Bool
entry? pitch = leb (sine_entry pitch) 1000000

pitch? : ℕ → Bool
pitch? pitch = both (series? pitch) (entry? pitch)

-- the one test, over the pitches of a roof
tested : (pitch : ℕ) → pitch ≤ 800 → T (pitch? pitch)
unfolding series? entry? pitch? sine_entry sine_reference
tested pitch h = every_at pitch? 801 tt pitch (omega arith)

pub series_subtracts : (pitch : ℕ) → pitch ≤ 800 → series_minus (angle_num pitch) ≤ series_plus (angle_num pitch)
unfolding series? pitch?
series_subtracts pitch h = leb→le _ _ (both_left (series? pitch) (entry? pitch) (tested pitch h))

pub sine_most : (pitch : ℕ) → pitch ≤ 800 → sine_entry pitch ≤ 1000000
unfolding entry? pitch?
sine_most pitch h = leb→le (sine_entry pitch) 1000000 (both_right (series? pitch) (entry? pitch) (tested pitch h))
