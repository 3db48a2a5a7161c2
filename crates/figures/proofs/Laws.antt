-- What the tests of the value rules make of the definitions.
use Prim.Native.Nat.{ℕ, zero, suc, ◌≤◌, ◌<◌}
use mathlib.Core.Path.{◌≡◌, refl, ◌∙◌}
use mathlib.Core.Bool.{Bool, true, false, ◌&&◌}
use borrow.Author.Tests.{leb-true, ne_eqb}
use lib.Dec.{leb}
use native.Mathlib.Omega.{arith}
use Rattle.figures.specs.Ranges.{within}
use Rattle.figures.specs.Rules.{refused_if, first_of}

-- what a conjunction and a range tell
pub both : (a b : Bool) → (a && b) ≡ true → (a ≡ true) × (b ≡ true)
both true b h = (refl, h)
both false b h = let z : ◌≡◌ {A = ℕ} 0 1 = cc in absurd (omega arith)

pub within_in : (low high x : ℕ) → within low high x ≡ true → (low ≤ x) × (x ≤ high)
within_in low high x h =
    let p = both (leb low x) (leb x high) h in
    (leb-true low x p.0, leb-true x high p.1)

-- the first of two rules that is broken
pub first_kept : (a b : ℕ) → a ≡ 0 → b ≡ first_of a b
unfolding first_of
first_kept a b e = rw e

pub first_broken : (a b : ℕ) → (a ≡ 0 → ⊥) → a ≡ first_of a b
unfolding first_of
first_broken a b h = rw (ne_eqb a 0 h)

-- no rule is broken where the first of two that is broken has no number
pub none_broken : (a b : ℕ) → first_of a b ≡ 0 → (a ≡ 0) × (b ≡ 0)
none_broken zero b h = (refl, first_kept 0 b refl ∙ h)
none_broken (suc a) b h = absurd (omega (arith, first_broken (suc a) b (λ e. omega arith) ∙ h))

pub kept : (broken : Bool) (number : ℕ) → 0 < number → refused_if broken number ≡ 0 → broken ≡ false
kept true number p h = absurd (omega arith)
kept false number p h = refl
