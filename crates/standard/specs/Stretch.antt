-- A stretch is one segment before rounding: a part of an uncut ramp, with the exact loads at the ramp's two ends.
-- A run of stretches, by their index, has no starts of its own: where one starts is the sum of the lengths before it.
-- Lengths and stations are in quarter millimetres. Loads are worked in parts, g to the N/m²: "sums and ramps work in tenths, and only a
-- printed or returned load is rounded up to a whole N/m²" (document 02, A4). At 10 these are the loads returned; at 1 every part is
-- rounded up to a whole N/m², as before that request.
use Rattle.std.specs.Prelude.{ℕ, zero, suc, ◌+◌, ◌-◌, ◌*◌, max, Bool, cond, ◌&&◌, List, [], ◌∷◌, ◌++◌, leb}
use Rattle.rounding.specs.Fraction.{Fraction, over}
use Rattle.rounding.specs.Limit.{larger}
use Rattle.rounding.specs.Load.{Load, alone, exact, break_load}
use Rattle.rounding.specs.Ramp.{line, reading}

-- its length on the roof, how far into the uncut ramp it begins, the ramp's whole length, and the ramp's loads at its two ends
pub record Stretch : Type 0 where
  pub extent : ℕ
  pub skip : ℕ
  pub full : ℕ
  pub from : Load
  pub to : Load

-- a stretch of one load
abbrev pub even : ℕ → Load → Stretch
even extent l = record { extent = extent; skip = 0; full = extent; from = l; to = l }

-- a whole ramp
abbrev pub ramp : ℕ → Load → Load → Stretch
ramp extent from to = record { extent = extent; skip = 0; full = extent; from = from; to = to }

-- 5.2 (5.1): the load at μ is μ × Ce × Ct × sk, and 5.2 (5.2) Cesl times that; factor is Ce × Ct × Cesl in millionths
unfoldable pub load : Fraction → ℕ → ℕ → Fraction
load mu factor sk = over (mu.num * factor * sk) (mu.den * 1000000)

-- a load of one part
abbrev pub load_alone : Fraction → ℕ → ℕ → Load
load_alone mu factor sk = alone (load mu factor sk)

-- the load at μ = 0.8, and no load
abbrev pub eight_tenths : ℕ → ℕ → Load
eight_tenths factor sk = load_alone (over 8 10) factor sk

abbrev pub no_load : Load
no_load = alone (over 0 1)

-- the reading x into a stretch: the line between the break loads of the uncut ramp, rounded up
unfoldable pub read_in : ℕ → Stretch → ℕ → ℕ
read_in g s x = reading g (break_load g s.from) (break_load g s.to) s.full (s.skip + x)

-- the exact rule x into a stretch: the same line, no load rounded
unfoldable pub exact_in : Stretch → ℕ → Fraction
exact_in s x = line (exact s.from) (exact s.to) s.full (s.skip + x)

-- where stretch i of a run starts
unfoldable pub start_of : (ℕ → Stretch) → ℕ → ℕ
start_of S zero = 0
start_of S (suc i) = start_of S i + (S i).extent

-- "each start, end, load at start, load at end"
unfoldable pub segment : ℕ → (ℕ → Stretch) → ℕ → List ℕ
segment g S i = start_of S i ∷ (start_of S i + (S i).extent) ∷ read_in g (S i) 0 ∷ read_in g (S i) (S i).extent ∷ []

-- the first n of lists by their index, one after the other
unfoldable pub lists_joined : (ℕ → List ℕ) → ℕ → List ℕ
lists_joined L zero = []
lists_joined L (suc n) = lists_joined L n ++ L n

-- the first n segments, one after the other
unfoldable pub segments : ℕ → (ℕ → Stretch) → ℕ → List ℕ
segments g S n = lists_joined (segment g S) n

-- a stretch that starts at start holds the station p
unfoldable pub holds : ℕ → ℕ → ℕ → Bool
holds start extent p = leb start p && leb p (start + extent)

-- what stretch i reads at a station, 0 where it does not hold it
unfoldable pub reading_at : ℕ → (ℕ → Stretch) → ℕ → ℕ → ℕ
reading_at g S p i = cond (holds (start_of S i) (S i).extent p) (read_in g (S i) (p - start_of S i)) 0

unfoldable pub exact_reading_at : (ℕ → Stretch) → ℕ → ℕ → Fraction
exact_reading_at S p i = cond (holds (start_of S i) (S i).extent p) (exact_in (S i) (p - start_of S i)) (over 0 1)

-- "on a shared position it is the greater of the two": the greatest over the first n stretches that hold the station
unfoldable pub greatest : ℕ → (ℕ → Stretch) → ℕ → ℕ → ℕ
greatest g S p zero = 0
greatest g S p (suc n) = max (greatest g S p n) (reading_at g S p n)

unfoldable pub exact_greatest : (ℕ → Stretch) → ℕ → ℕ → Fraction
exact_greatest S p zero = over 0 1
exact_greatest S p (suc n) = larger (exact_greatest S p n) (exact_reading_at S p n)
