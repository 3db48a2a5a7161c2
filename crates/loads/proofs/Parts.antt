-- A part that code rounds up over one denominator is the part of the definition; a break load adds them.
use Prim.Native.Nat.{ℕ, ◌+◌, ◌*◌, ◌≤◌, ◌<◌}
use mathlib.Core.Path.{◌≡◌, sym, ◌∙◌}
use mathlib.Core.Bool.{Bool, true, false, cond}
use native.Mathlib.Nat.{mul-one}
use native.Mathlib.Omega.{arith}
use Rattle.rounding.specs.Fraction.{Fraction, over, Same}
use Rattle.rounding.specs.Load.{alone, break_load}
use Rattle.rounding.specs.Up.{ceil_div, rounded_up}
use Rattle.rounding.proofs.Ramps.{break_alone}
use Rattle.rounding.proofs.Rounding.{same_factor, up_same}
use Rattle.standard.specs.Pitched.{halved}
use Rattle.standard.specs.Stretch.{load, load_alone}
use Rattle.standard.specs.Units.{parts, largest_part}
use Rattle.standard.proofs.Loads.{load_positive}
use Rattle.standard.proofs.Numerators.{load_same, load_without}

-- A load in parts is its numerator over the denominator's share for one part.
pub in_parts : (n d q r : ℕ) → 0 < d → d ≡ parts * q → r ≡ ceil_div n q → r ≡ rounded_up parts (over n d)
unfolding rounded_up
in_parts n d q r h s e = rw s (e ∙ sym (same_factor parts n q (omega arith) (omega arith)))

-- a shape coefficient as code has it, m over d
pub record Coefficient (mu : Fraction) (m d : ℕ) : Type 0 where
  pub positive : 0 < mu.den
  pub some : 0 < d
  pub same : Same mu (over m d)

module _ (mu : Fraction) (m d factor sk r : ℕ) where
  -- the load at μ = m / d
  pub part_is : Coefficient mu m d → r ≡ rounded_up parts (over (m * factor * sk) (d * 1000000)) → r ≡ rounded_up parts (load mu factor sk)
  unfolding load
  part_is h e =
      let hd : 0 < d = h.some in
      e ∙ sym (up_same parts _ _ (load_positive mu factor sk h.positive) (omega arith) (load_same mu (over m d) factor sk h.same))

  -- the load at μ = m / (d × sk)
  pub part_without :
      0 < mu.den → 0 < d → Same mu (over m (d * sk)) → r ≡ rounded_up parts (over (m * factor) (d * 1000000))
      → r ≡ rounded_up parts (load mu factor sk)
  part_without h hd p e = e ∙ sym (up_same parts _ _ (load_positive mu factor sk h) (omega arith) (load_without mu m d factor sk p))

-- a load of one part, and of two
pub alone_is : (f : Fraction) (r : ℕ) → r ≡ rounded_up parts f → r ≡ break_load parts (alone f)
alone_is f r e = e ∙ sym (break_alone parts f)

pub both_are :
    (f g : Fraction) (x y : ℕ) → x ≡ rounded_up parts f → y ≡ rounded_up parts g → x + y ≡ break_load parts (record { first = f; second = g })
unfolding break_load
both_are f g x y p q = rw (← p, ← q)

-- a load of one part
abbrev Loaded : Fraction → ℕ → ℕ → ℕ → Type 0
Loaded mu factor sk r = (r ≡ break_load parts (load_alone mu factor sk)) × (r ≤ largest_part)

abbrev Rounded : ℕ → ℕ → ℕ → Type 0
Rounded n d r = (r ≡ rounded_up parts (over n (d * 1000000))) × (r ≤ largest_part)

pub load_is :
    (mu : Fraction) (m d factor sk r : ℕ) → Coefficient mu m d → Rounded (m * factor * sk) d r → Loaded mu factor sk r
load_is mu m d factor sk r h e = (alone_is _ r (part_is mu m d factor sk r h e.0), e.1)

-- of a coefficient or of half of it
pub halved_is :
    (half : Bool) (mu : Fraction) (m d two : ℕ) → two ≡ cond half 2 1 → Coefficient mu m d → Coefficient (halved half mu) m (d * two)
unfolding Same
halved_is true mu m d two e h =
    let some : 0 < d * 2 = omega (arith, h.some) in
    rw e (record { positive = omega (arith, h.positive); some = some; same = omega (arith, h.same) })
halved_is false mu m d two e h = let z : d * two ≡ d = rw e (mul-one d) in rw z h
