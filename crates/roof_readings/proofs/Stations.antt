-- One segment more in a reading, and what the call's answer is.
use Prim.Native.Nat.{ℕ, ◌+◌, ◌≤◌, max}
use mathlib.Core.List.{List}
use mathlib.Core.Path.{◌≡◌, ◌∙◌}
use native.Mathlib.Numerals.{add-one}
use Rattle.std.specs.Prelude.{Result, Ok, Err}
use Rattle.figures.specs.declared.refusal.Refusal.{Refusal}
use Rattle.figures.specs.declared.site.Site.{Site}
use Rattle.figures.specs.declared.roof.Roof.{Roof}
use Rattle.ramps.specs.Ramps.{RoundedStretch, ramp_of, read_ramp}
use Rattle.standard.specs.Answers.{result_means, national_for, load_answer}
use Rattle.standard.specs.Stretch.{Stretch, read_in, start_of, reading_at, greatest}
use Rattle.standard.specs.Units.{parts}
use Rattle.standard.proofs.Answered.{answers_near, answers_rise}
use Rattle.standard.proofs.Demand.{Alike}
use Rattle.roof_readings.specs.Reading.{value_of, distance_of, InOrder}

pub one_more :
    (S : ℕ → Stretch) (p i start : ℕ) (r : RoundedStretch) → start ≡ start_of S i → r ≡ ramp_of (S i)
    → (best v b : ℕ) → best ≡ greatest parts S p i → v ≡ value_of r start p → b ≡ max best v → b ≡ greatest parts S p (i + 1)
unfolding greatest reading_at read_in value_of read_ramp ramp_of
one_more S p i start r es er best v b e f g = g ∙ rw (add-one i, e, f, es, er)

-- what is answered as a load lies near the exact rule
pub near_answer :
    (store : List ℕ) (s : Site) (r : Roof) (code p : ℕ) (a : Result ℕ Refusal) → result_means a ≡ load_answer store s r code p
    → distance_of (national_for store s) s r code p a
near_answer store s r code p (Ok x) e = answers_near store s r code p x (cc)
near_answer store s r code p (Err refusal) e = tt

-- demand 3, of two answers of the call, for sites that differ in sk alone and use equal sets: the load never falls as the ground load rises
pub rising_answers :
    (c d : List ℕ) (s t : Site) (r : Roof) (code p : ℕ) (a b : Result ℕ Refusal) → Alike s t → national_for c s ≡ national_for d t → s.sk ≤ t.sk
    → result_means a ≡ load_answer c s r code p → result_means b ≡ load_answer d t r code p → InOrder a b
rising_answers c d s t r code p (Ok x) (Ok y) l u h e f = answers_rise c d s t r code p x y l u h (cc) (cc)
rising_answers c d s t r code p (Ok x) (Err refusal) l u h e f = tt
rising_answers c d s t r code p (Err refusal) b l u h e f = tt
