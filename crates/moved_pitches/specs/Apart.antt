-- How far two loads lie apart where pitches have moved by a tenth: document 02, A13.
use Rattle.std.specs.Prelude.{ℕ, ◌+◌, ◌*◌, ◌≤◌, ◌≡◌}
use Rattle.figures.specs.declared.site.Site.{Site}
use Rattle.rounding.specs.Fraction.{Fraction, over, sum, Below, UnderParts}
use Rattle.rounding.specs.Up.{rounded_up}
use Rattle.standard.specs.Answers.{Answer, value, refused}
use Rattle.standard.specs.Arrangements.{factor_of}
use Rattle.standard.specs.Stretch.{Stretch, load, start_of, read_in}
use Rattle.standard.specs.Units.{parts}

-- e ≤ f + d
unfoldable pub AtMostAbove : Fraction → Fraction → Fraction → Type 0
AtMostAbove d e f = Below e (sum f d)

-- two exact loads lie at most d apart
pub record ExactApart (d e f : Fraction) : Type 0 where
  pub up : AtMostAbove d e f
  pub down : AtMostAbove d f e

-- "X is the unrounded load at μ = 1": Ce × Ct × sk, times Cesl in the accidental codes
abbrev pub load_at_one : Site → ℕ → Fraction
load_at_one site code = load (over 1 1) (factor_of site code) site.sk

-- X/375
abbrev pub tenth_cost : Site → ℕ → Fraction
tenth_cost site code = over (load_at_one site code).num (375 * (load_at_one site code).den)

-- "must move a reading by less than X/375 + 1.2 N/m²": neither of two readings lies d + 1.2 above the other
pub record ReadingsApart (d : Fraction) (r s : ℕ) : Type 0 where
  pub up : UnderParts 10 r (sum (over s 1) d) 12
  pub down : UnderParts 10 s (sum (over r 1) d) 12

-- and by no more than d, rounded up to a whole N/m²
pub record WholeApart (d : Fraction) (r s : ℕ) : Type 0 where
  pub up : r ≤ s + rounded_up 1 d
  pub down : s ≤ r + rounded_up 1 d

-- two answers to the call that reads a load: both refuse by one number, or both read, and the readings are in the relation
abbrev pub AnswersApart : (ℕ → ℕ → Type 0) → Answer → Answer → Type 0
AnswersApart R (value r) (value s) = R r s
AnswersApart R (refused m) (refused n) = m ≡ n
AnswersApart R (value r) (refused n) = ⊥
AnswersApart R (refused m) (value s) = ⊥

-- segment i of two arrangements: the same start and end, and its loads at either in the relation
pub record SegmentsApart (R : ℕ → ℕ → Type 0) (S T : ℕ → Stretch) (i : ℕ) : Type 0 where
  pub start : start_of S i ≡ start_of T i
  pub length : (S i).extent ≡ (T i).extent
  pub first : R (read_in parts (S i) 0) (read_in parts (T i) 0)
  pub last : R (read_in parts (S i) (S i).extent) (read_in parts (T i) (T i).extent)
