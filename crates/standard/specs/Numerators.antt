-- The shape coefficients over one denominator each: the numerators that code computes. Each is proved to be the coefficient of
-- `Coefficients` in proofs/Numerators.
use Rattle.std.specs.Prelude.{ℕ, ◌+◌, ◌-◌, ◌*◌, min, max, cond, leb}
use Rattle.figures.specs.declared.slopes.Slope.{Slope}
use Rattle.figures.specs.declared.national.National.{National}

-- 375 × μ1
unfoldable pub mu1_num : ℕ → ℕ
mu1_num pitch = min 300 (600 - pitch)

-- 375 × μ1 of a slope, its guard included
unfoldable pub slope_num : ℕ → ℕ → ℕ
slope_num pitch guard = max (300 * guard) (mu1_num pitch)

-- 750 × μ2 of half the given angle
unfoldable pub mu2_num : ℕ → ℕ
mu2_num twice = min 1200 (600 + twice)

-- 100 × span × μ3
unfoldable pub mu3_num : National → ℕ → ℕ → ℕ
mu3_num national rise span = min (national.arch * span) (20 * span + 1000 * rise)

-- 200 × h × sk × μw
unfoldable pub wind_num : National → ℕ → ℕ → ℕ → ℕ
wind_num national b h sk = max (2 * h * national.low * sk) (min (2 * h * national.high * sk) (min (400 * h * h) (100 * b * sk)))

-- 375 × ls × μs
unfoldable pub slide_num : Slope → ℕ → ℕ
slide_num slope guard = cond (leb slope.pitch 150) 0 (slope_num slope.pitch guard * slope.width)

-- ls × the load at the peak of an exceptional drift, which has no coefficient
unfoldable pub peak_num : ℕ → ℕ → ℕ → ℕ → ℕ → ℕ
peak_num times h b ls sk = min (2 * h * ls) (min (2 * b * sk) (times * sk * ls))

-- 10 × sk × μ2 at a projection
unfoldable pub projection_num : ℕ → ℕ → ℕ
projection_num h sk = max (8 * sk) (min (20 * sk) (20 * h))
