-- What the limits tell of a sheet, and what a lower ceiling makes of them.
use Prim.Native.Nat.{ℕ, ◌+◌, ◌*◌, ◌≤◌}
use mathlib.Core.Bool.{Bool, true, false, ◌&&◌}
use mathlib.Core.Path.{◌≡◌, refl}
use borrow.Author.Tests.{le-leb, leb-true}
use lib.Dec.{leb}
use native.Mathlib.Omega.{arith}
use Rattle.figures.proofs.Laws.{both, within_in}
use Rattle.figures.specs.Ranges.{within}
use Rattle.ceilings.specs.Ceilings.{terminals, ceiling_of, fits, inside}
use Rattle.ceilings.specs.declared.Caller.{Caller}
use Rattle.ceilings.specs.declared.Caller.TheVariants.{Terminal, Desk}
use Rattle.ceilings.specs.declared.Ceiling.{Ceiling}

-- what the limits tell
pub record Fitting (ceiling : Ceiling) (b n : ℕ) : Type 0 where
  pub bytes : b ≤ ceiling.bytes
  pub some : 1 ≤ n
  pub items : n ≤ ceiling.items
  pub pairs : 2 + 4 * n ≤ b

pub fitting : (ceiling : Ceiling) (b n : ℕ) → fits ceiling b n ≡ true → Fitting ceiling b n
fitting ceiling b n h =
    let p = both (within 2 ceiling.bytes b && within 1 ceiling.items n) (leb (2 + 4 * n) b) h in
    let q = both (within 2 ceiling.bytes b) (within 1 ceiling.items n) p.0 in
    record {
      bytes = (within_in 2 ceiling.bytes b q.0).1;
      some = (within_in 1 ceiling.items n q.1).0;
      items = (within_in 1 ceiling.items n q.1).1;
      pairs = leb-true (2 + 4 * n) b p.1;
    }

-- a ceiling that is nowhere above another
pub record Below (low high : Ceiling) : Type 0 where
  pub items : low.items ≤ high.items
  pub bytes : low.bytes ≤ high.bytes

-- no caller's ceiling is above the terminals'
pub below_terminals : (caller : Caller) → Below (ceiling_of caller) terminals
below_terminals Terminal = record { items = omega arith; bytes = omega arith }
below_terminals Desk = record { items = omega arith; bytes = omega arith }

-- what keeps a lower limit keeps a higher one
still_kept : (x low high : ℕ) → low ≤ high → leb x low ≡ true → leb x high ≡ true
still_kept x low high h e = le-leb x high (omega (arith, leb-true x low e))

-- two tests against lower limits, among others, are the two in front of the tests against higher limits
by_limits :
    (a b a' b' p q r : Bool) → (a ≡ true → a' ≡ true) → (b ≡ true → b' ≡ true)
    → (p && a && (q && b) && r) ≡ (a && b && (p && a' && (q && b') && r))
by_limits true true a' b' p q r h k = rw (h refl, k refl)
by_limits true false a' b' true true r h k = refl
by_limits true false a' b' true false r h k = refl
by_limits true false a' b' false q r h k = refl
by_limits false b a' b' true q r h k = refl
by_limits false b a' b' false q r h k = refl

-- under the lower ceiling a sheet fits that is inside of it and fits under the higher
pub lower_fits : (low high : Ceiling) → Below low high → (b n : ℕ) → fits low b n ≡ (inside low b n && fits high b n)
lower_fits low high h b n =
    by_limits (leb b low.bytes) (leb n low.items) (leb b high.bytes) (leb n high.items) (leb 2 b) (leb 1 n) (leb (2 + 4 * n) b)
    (still_kept b low.bytes high.bytes h.bytes) (still_kept n low.items high.items h.items)
