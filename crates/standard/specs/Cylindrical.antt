-- Kind 5, 5.3.5: the loaded width ls is centred; outside it the load is 0. Code 1: 0.8. Code 2: two triangles, each on half of ls
-- and peaking at its middle, left 0.5μ3, right μ3.
use Rattle.std.specs.Prelude.{ℕ, zero, suc, ◌+◌, ◌-◌, ◌*◌, Bool, true, false, cond, leb, ltb}
use Rattle.rounding.specs.Fraction.{over}
use Rattle.rounding.specs.Load.{Load}
use Rattle.standard.specs.Coefficients.{mu3}
use Rattle.standard.specs.Stretch.{Stretch, even, ramp, load_alone, eight_tenths, no_load}
use Rattle.figures.specs.declared.national.National.{National}

-- the first number from n on that a test takes, of at most k tries
unfoldable pub first_from : (ℕ → Bool) → ℕ → ℕ → ℕ
first_from test n zero = n
first_from test n (suc k) = cond (test n) n (first_from test (suc n) k)

-- (8 × rise × ls)² ≥ 3(span² + 4 × rise²)²: the arch is at most 60° steep within ls
unfoldable pub wide_enough : ℕ → ℕ → ℕ → Bool
wide_enough rise span ls =
    leb (3 * ((span * span + 4 * (rise * rise)) * (span * span + 4 * (rise * rise)))) (8 * rise * ls * (8 * rise * ls))

-- "If 12 × rise² ≤ span², the loaded width ls is the span. Otherwise ls is the least whole number with" that
unfoldable pub loaded_width : ℕ → ℕ → ℕ
loaded_width rise span =
    cond (leb (12 * (rise * rise)) (span * span)) span
    (first_from (wide_enough rise span) 0 span)

-- code 1: bare, loaded, bare
unfoldable pub arch_even : ℕ → ℕ → ℕ → ℕ → ℕ → Stretch
arch_even factor sk span ls zero = even (2 * (span - ls)) no_load
arch_even factor sk span ls (suc zero) = even (4 * ls) (eight_tenths factor sk)
arch_even factor sk span ls (suc (suc i)) = even (2 * (span - ls)) no_load

-- code 2: bare, a triangle to half the peak, a triangle to the peak, bare
unfoldable pub arch_drift : Load → Load → ℕ → ℕ → ℕ → Stretch
arch_drift half peak span ls zero = even (2 * (span - ls)) no_load
arch_drift half peak span ls (suc zero) = ramp ls no_load half
arch_drift half peak span ls (suc (suc zero)) = ramp ls half no_load
arch_drift half peak span ls (suc (suc (suc zero))) = ramp ls no_load peak
arch_drift half peak span ls (suc (suc (suc (suc zero)))) = ramp ls peak no_load
arch_drift half peak span ls (suc (suc (suc (suc (suc i))))) = even (2 * (span - ls)) no_load

-- the loads of 0.5μ3 and of μ3
unfoldable pub peak_load : National → ℕ → ℕ → ℕ → ℕ → Load
peak_load national factor sk rise span = load_alone (mu3 national rise span) factor sk

unfoldable pub half_load : National → ℕ → ℕ → ℕ → ℕ → Load
half_load national factor sk rise span =
    load_alone (over (mu3 national rise span).num (2 * (mu3 national rise span).den)) factor sk

-- the row without its bare ends where the whole span is loaded
unfoldable pub cylindrical : National → ℕ → ℕ → ℕ → ℕ → Bool → ℕ → Stretch
cylindrical national factor sk rise span true i =
    arch_even factor sk span (loaded_width rise span) (cond (ltb (loaded_width rise span) span) i (suc i))
cylindrical national factor sk rise span false i =
    arch_drift (half_load national factor sk rise span) (peak_load national factor sk rise span) span (loaded_width rise span)
    (cond (ltb (loaded_width rise span) span) i (suc i))

unfoldable pub cylindrical_count : ℕ → ℕ → Bool → ℕ
cylindrical_count rise span true = cond (ltb (loaded_width rise span) span) 3 1
cylindrical_count rise span false = cond (ltb (loaded_width rise span) span) 6 4
