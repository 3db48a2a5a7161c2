-- A ramp whose loads are a stretch's break loads is the stretch's, and the reading in it.
use Prim.Native.Nat.{ℕ, ◌+◌, ◌-◌, ◌*◌, ◌≤◌}
use mathlib.Core.Path.{◌≡◌, sym, ◌∙◌}
use Rattle.rounding.specs.Fraction.{over}
use Rattle.rounding.specs.Load.{Load, break_load}
use Rattle.rounding.specs.Ramp.{reading}
use Rattle.rounding.specs.Up.{ceil_div}
use Rattle.rounding.proofs.Rounding.{up_nothing}
use Rattle.rounding.proofs.Ramps.{break_alone, reading_start, reading_end, reading_most}
use native.Mathlib.Nat.{mul-le-mul}
use native.Mathlib.Omega.{arith}
use Rattle.standard.specs.Stretch.{even, ramp, no_load}
use Rattle.standard.specs.Units.{parts, largest_position, largest_break, largest_load}
use Rattle.ramps.specs.Ramps.{RoundedStretch, ramp_of, RampIn, read_ramp}

abbrev pub made : ℕ → ℕ → ℕ → ℕ → ℕ → RoundedStretch
made x k f a b = record { extent = x; skip = k; full = f; from = a; to = b }

pub no_load_lem : 0 ≡ break_load parts no_load
no_load_lem = sym (break_alone parts (over 0 1) ∙ up_nothing parts)

-- a ramp that may be cut, a whole one, and one of one load
pub cut_ramp :
    (x k f a b : ℕ) (from to : Load) → a ≡ break_load parts from → b ≡ break_load parts to
    → made x k f a b ≡ ramp_of (record { extent = x; skip = k; full = f; from = from; to = to })
unfolding ramp_of
cut_ramp x k f a b from to p q = rw (p, q)

-- and its bounds
pub cut_in :
    (x k f a b : ℕ) → 1 ≤ x → k + x ≤ f → f ≤ largest_position → a ≤ largest_break → b ≤ largest_break → RampIn (made x k f a b)
cut_in x k f a b some inside full s t = record { some = some; inside = inside; full = full; from = s; to = t }

module _ (r : RoundedStretch) where
  pub whole_ramp :
      (x a b : ℕ) (from to : Load) → r ≡ made x 0 x a b → a ≡ break_load parts from → b ≡ break_load parts to → r ≡ ramp_of (ramp x from to)
  whole_ramp x a b from to e p q = e ∙ cut_ramp x 0 x a b from to p q

  pub even_ramp : (x a : ℕ) (l : Load) → r ≡ made x 0 x a a → a ≡ break_load parts l → r ≡ ramp_of (even x l)
  even_ramp x a l e p = whole_ramp x a a l l e p p

-- the two products of a reading, and that a reading is no larger than its break loads may be
pub record Weighed (r : RoundedStretch) (x : ℕ) : Type 0 where
  pub from : r.from * (r.full - (r.skip + x)) ≤ 1843200000000000
  pub to : r.to * (r.skip + x) ≤ 1843200000000000
  pub most : read_ramp r x ≤ largest_load

pub weighed : (r : RoundedStretch) (x : ℕ) → RampIn r → x ≤ r.extent → Weighed r x
unfolding read_ramp
weighed r x h p =
    let along : r.skip + x ≤ largest_position = omega (arith, h.inside, h.full) in
    let left : r.full - (r.skip + x) ≤ largest_position = omega (arith, h.full) in
    record {
      from = mul-le-mul h.from left;
      to = mul-le-mul h.to along;
      most =
          reading_most parts r.from r.to r.full (omega arith) (omega (arith, h.some, h.inside)) (r.skip + x) largest_load
          (omega (arith, h.inside)) h.from h.to;
    }

-- at an end of the uncut ramp its break load is read, rounded up to a whole N/m², and between them the line
module _ (r : RoundedStretch) (x : ℕ) (h : RampIn r) where
  pub read_start : (n d : ℕ) → n ≡ r.from → d ≡ parts → r.skip + x ≡ 0 → ceil_div n d ≡ read_ramp r x
  unfolding read_ramp
  read_start n d p q e = rw (p, q, e) (sym (reading_start parts r.from r.to r.full (omega arith) (omega (arith, h.some, h.inside))))

  pub read_end : (n d : ℕ) → n ≡ r.to → d ≡ parts → x ≤ r.extent → r.full - (r.skip + x) ≡ 0 → ceil_div n d ≡ read_ramp r x
  unfolding read_ramp
  read_end n d p q k e =
      let f : r.skip + x ≡ r.full = omega (arith, h.inside) in
      rw (p, q, f) (sym (reading_end parts r.from r.to r.full (omega arith) (omega (arith, h.some, h.inside))))

  pub read_between :
      (n d : ℕ) → n ≡ r.from * (r.full - (r.skip + x)) + r.to * (r.skip + x) → d ≡ parts * r.full → ceil_div n d ≡ read_ramp r x
  unfolding read_ramp reading
  read_between n d p q = rw (p, q)

-- what makes a ramp that a contract names
pub ruleset stretches = (no_load_lem, cut_ramp, whole_ramp, even_ramp)
