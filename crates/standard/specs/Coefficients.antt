-- The shape coefficients μ, exact fractions. Pitches are in tenths of a degree, lengths in mm, sk in N/m².
use Rattle.std.specs.Prelude.{ℕ, ◌+◌, ◌-◌, ◌*◌, cond, leb, ltb, eqb}
use Rattle.rounding.specs.Fraction.{Fraction, over, sum}
use Rattle.rounding.specs.Limit.{smaller, larger, held_to}
use Rattle.figures.specs.declared.slopes.Slope.{Slope}
use Rattle.figures.specs.declared.national.National.{National}

-- Table 5.2: μ1 is 0.8 up to 30°; 0.8(60 − α)/30 between; 0 from 60°
unfoldable pub mu1 : ℕ → Fraction
mu1 pitch =
    cond (leb pitch 300) (over 8 10)
    (cond (ltb pitch 600) (over (8 * (600 - pitch)) (10 * 300))
    (over 0 1))

-- 5.3.2 (2): with a guard never below 0.8
unfoldable pub guarded : ℕ → Fraction → Fraction
guarded guard mu = cond (eqb guard 1) (larger (over 8 10) mu) mu

-- μ1 of a slope, its guard included
abbrev pub slope_mu : Slope → ℕ → Fraction
slope_mu slope guard = guarded guard (mu1 slope.pitch)

-- Table 5.2: μ2 of half the given angle: 0.8 + 0.8α/30 up to 30°, then 1.6
unfoldable pub mu2 : ℕ → Fraction
mu2 twice = cond (leb twice 600) (sum (over 8 10) (over (8 * twice) (10 * 600))) (over 16 10)

-- 5.3.4: μ2 of the mean of a valley's two pitches
abbrev pub valley_mu : ℕ → ℕ → Fraction
valley_mu left right = mu2 (left + right)

-- 5.3.5 (5.5): μ3 = 0.2 + 10 × rise/span, at most its upper value
unfoldable pub mu3 : National → ℕ → ℕ → Fraction
mu3 national rise span = smaller (over national.arch 100) (sum (over 2 10) (over (10 * rise) span))

-- 5.3.6 (5.9): the drift length is 2h, held to a range
unfoldable pub drift_length : ℕ → ℕ → ℕ → ℕ
drift_length short long h = held_to short long (2 * h)

-- 5.3.6 (5.8): μw = (b1 + b2)/2h, first limited above by 2h/sk and by its upper value, then below by its lower value
unfoldable pub mu_wind : National → ℕ → ℕ → ℕ → ℕ → Fraction
mu_wind national b1 b2 h sk =
    larger (over national.low 100)
    (smaller (over national.high 100)
    (smaller (over (2 * h) sk) (over (b1 + b2) (2 * h))))

-- 5.3.6: μs is 0 up to 15.0°; above that μ1 × slope width/ls, so that a triangle holds half of the slope's snow
unfoldable pub mu_slide : Slope → ℕ → ℕ → Fraction
mu_slide slope guard ls =
    cond (leb slope.pitch 150) (over 0 1)
    (over ((slope_mu slope guard).num * slope.width) ((slope_mu slope guard).den * ls))

-- 6.2 (6.1), (6.2): μ2 at a projection is 2h/sk, held to 0.8..2.0
unfoldable pub mu_projection : ℕ → ℕ → Fraction
mu_projection h sk = larger (over 8 10) (smaller (over 2 1) (over (2 * h) sk))
