-- The table of pairs, proved at each of its places by one test that antt computes.
use Prim.Native.Nat.{ℕ, zero, suc, ◌+◌, ◌-◌, ◌*◌, ◌/◌, ◌<◌}
use mathlib.Core.Bool.{Bool, true, ◌&&◌}
use mathlib.Core.Path.{◌≡◌}
use native.Mathlib.Omega.{arith}
use lib.Dec.{T, eqb, eqb→eq}
use lib.Ieee.Fits.{and_l, and_r}
use lib.ListN.{get_or}
use Rattle.std.proofs.Common.{eq-zero-or-pos, inl, inr}
use Rattle.text.specs.Text.{digit}
use Rattle.digits.specs.declared.pairs.TheConstants.{PAIRS}

abbrev are_pairs : ℕ → Bool
are_pairs zero = true
are_pairs (suc p) = (eqb (get_or PAIRS (2 * p) 0) (digit (p / 10)) && eqb (get_or PAIRS (2 * p + 1) 0) (digit p)) && are_pairs p

below : (n p : ℕ) → T (are_pairs n) → p < n → (get_or PAIRS (2 * p) 0 ≡ digit (p / 10)) × (get_or PAIRS (2 * p + 1) 0 ≡ digit p)
below zero p t h = absurd (omega arith)
below (suc n) p t h =
    elim (eq-zero-or-pos (n - p)) [
      | inl z ↦ let e : p ≡ n = omega arith in let a = and_l _ (are_pairs n) t in rw e (eqb→eq _ _ (and_l _ _ a), eqb→eq _ _ (and_r _ _ a))
      | inr g ↦ below n p (and_r _ (are_pairs n) t) (omega arith)
    ]

pub pair_at : (p : ℕ) → p < 100 → (get_or PAIRS (2 * p) 0 ≡ digit (p / 10)) × (get_or PAIRS (2 * p + 1) 0 ≡ digit p)
pair_at p h = below 100 p tt h
