-- Loads by a coefficient: their denominators are positive, and they rise with sk.
use Prim.Native.Nat.{ℕ, ◌*◌, ◌≤◌, ◌<◌}
use native.Mathlib.Nat.{mul-le-mul_left, mul-le-mul_right}
use native.Mathlib.Omega.{arith}
use Rattle.rounding.specs.Fraction.{Fraction, over, Same, Below}
use Rattle.rounding.specs.Load.{Positive, alone}
use Rattle.rounding.proofs.Rounding.{same_below, same_sym}
use Rattle.rounding.proofs.Limited.{below_refl, below_trans}
use Rattle.standard.specs.Stretch.{load, load_alone, eight_tenths, no_load}
use Rattle.standard.proofs.Numerators.{load_without}
use Rattle.standard.proofs.Runs.{Upward}

pub load_positive : (mu : Fraction) (factor sk : ℕ) → 0 < mu.den → 0 < (load mu factor sk).den
unfolding load
load_positive mu factor sk h = omega arith

pub alone_positive : (mu : Fraction) (factor sk : ℕ) → 0 < mu.den → Positive (load_alone mu factor sk)
alone_positive mu factor sk h = record { first = load_positive mu factor sk h; second = omega arith }

pub eight_tenths_positive : (factor sk : ℕ) → Positive (eight_tenths factor sk)
eight_tenths_positive factor sk = alone_positive (over 8 10) factor sk (omega arith)

pub no_load_positive : Positive no_load
no_load_positive = record { first = omega arith; second = omega arith }

pub alone_up : (e f : Fraction) → Below e f → Upward (alone e) (alone f)
alone_up e f p = record { first = p; second = below_refl (over 0 1) }

pub no_load_up : Upward no_load no_load
no_load_up = alone_up (over 0 1) (over 0 1) (below_refl (over 0 1))

module _ (factor s t : ℕ) where
  -- a coefficient that does not name sk
  pub load_up : (mu : Fraction) → s ≤ t → Below (load mu factor s) (load mu factor t)
  unfolding Below load
  load_up mu p = mul-le-mul_right (mu.den * 1000000) (mul-le-mul_left (mu.num * factor) p)

  pub steady_up : (mu : Fraction) → s ≤ t → Upward (load_alone mu factor s) (load_alone mu factor t)
  steady_up mu p = alone_up (load mu factor s) (load mu factor t) (load_up mu p)

  numerators_up : (m n d : ℕ) → m ≤ n → Below (over (m * factor) (d * 1000000)) (over (n * factor) (d * 1000000))
  unfolding Below
  numerators_up m n d c = mul-le-mul_right (d * 1000000) (mul-le-mul_right factor c)

  -- A coefficient over d × sk: the load has no sk below the line, so it rises as the numerator does.
  pub load_without_up :
      (mu nu : Fraction) (m n d : ℕ) → 0 < d → Same mu (over m (d * s)) → Same nu (over n (d * t)) → m ≤ n
      → Below (load mu factor s) (load nu factor t)
  load_without_up mu nu m n d h p q c =
      below_trans (load mu factor s) (over (m * factor) (d * 1000000)) (load nu factor t) (omega arith)
      (same_below _ _ (load_without mu m d factor s p))
      (below_trans (over (m * factor) (d * 1000000)) (over (n * factor) (d * 1000000)) (load nu factor t) (omega arith)
      (numerators_up m n d c)
      (same_below _ _ (same_sym _ _ (load_without nu n d factor t q))))
