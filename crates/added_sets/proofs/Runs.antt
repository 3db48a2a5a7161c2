-- A run of sets with one more, and a run of numbers that are stored one after the other.
use Prim.Native.Nat.{ℕ, zero, suc, ◌+◌, ◌≤◌, ◌<◌}
use mathlib.Core.Bool.{true}
use mathlib.Core.List.{List, [], ◌∷◌}
use mathlib.Core.Path.{◌≡◌, refl, ap, ◌∙◌}
use borrow.Author.Tests.{le-leb, lt-leb}
use lib.ListN.{length, get_or, set, length-set}
use lib.Seq.{sets, get_or-set_same, get_or-set_other}
use native.Mathlib.Numerals.{add-one}
use Rattle.std.specs.Prelude.{Some}
use native.Mathlib.Omega.{arith}
use Rattle.figures.specs.Store.{earliest_day, set_sound, sets_sound, last_begun}
use Rattle.figures.specs.declared.national.NationalSet.{NationalSet}

-- two runs alike in their first n sets
abbrev pub Alike : (ℕ → NationalSet) → (ℕ → NationalSet) → ℕ → Type 0
Alike S T n = (i : ℕ) → i < n → S i ≡ T i

module _ (S T : ℕ → NationalSet) where
  earliest_alike : (n : ℕ) → Alike S T n → earliest_day S n ≡ earliest_day T n
  earliest_alike zero same = refl
  earliest_alike (suc n) same = ap (λ (s : NationalSet). s.day + 1) (same n (omega arith))

  sound_alike : (n : ℕ) → Alike S T n → sets_sound S n ≡ sets_sound T n
  unfolding sets_sound
  sound_alike zero same = refl
  sound_alike (suc n) same =
      let less : Alike S T n = λ i h. same i (omega arith) in
      rw (sound_alike n less, earliest_alike n less, same n (omega arith))

  begun_alike : (day n : ℕ) → Alike S T n → last_begun S day n ≡ last_begun T day n
  unfolding last_begun
  begun_alike day zero same = refl
  begun_alike day (suc n) same = rw (same n (omega arith), begun_alike day n (λ i h. same i (omega arith)))

  -- S is T with one set more
  module _ (n : ℕ) (s : NationalSet) (same : Alike S T n) (added : S n ≡ s) where
    pub one_more : sets_sound T n ≡ true → set_sound (earliest_day T n) s ≡ true → sets_sound S (n + 1) ≡ true
    unfolding sets_sound
    one_more h k = rw (add-one n, sound_alike n same, earliest_alike n same, added, h, k)

    pub begun_before : (day : ℕ) → day < s.day → last_begun S day (n + 1) ≡ last_begun T day n
    unfolding last_begun
    begun_before day h = rw (add-one n, added, lt-leb s.day day h, begun_alike day n same)

    pub begun_since : (day : ℕ) → s.day ≤ day → last_begun S day (n + 1) ≡ Some s.figures
    unfolding last_begun
    begun_since day h = rw (add-one n, added, le-leb s.day day h)

-- a run of stores: the numbers before it, of it and behind it
pub number_before : (vs l : List ℕ) (at k : ℕ) → k < at → get_or (sets l at vs) k 0 ≡ get_or l k 0
number_before [] l at k h = refl
number_before (v ∷ vs) l at k h = number_before vs (set l at v) (suc at) k (omega arith) ∙ get_or-set_other l at k v 0 (λ e. omega arith)

pub number_behind : (vs l : List ℕ) (at k : ℕ) → at + length vs ≤ k → get_or (sets l at vs) k 0 ≡ get_or l k 0
number_behind [] l at k h = refl
number_behind (v ∷ vs) l at k h = number_behind vs (set l at v) (suc at) k (omega arith) ∙ get_or-set_other l at k v 0 (λ e. omega arith)

pub number_in : (vs l : List ℕ) (at j : ℕ) → at + length vs ≤ length l → j < length vs → get_or (sets l at vs) (at + j) 0 ≡ get_or vs j 0
number_in [] l at j h k = absurd (omega arith)
number_in (v ∷ vs) l at zero h k =
    let e : at + 0 ≡ at = omega arith in
    rw e (number_before vs (set l at v) (suc at) at (omega arith) ∙ get_or-set_same l at v 0 (omega arith))
number_in (v ∷ vs) l at (suc j) h k =
    let e : at + suc j ≡ suc at + j = omega arith in
    rw e (number_in vs (set l at v) (suc at) j (simp length-set (omega arith)) (omega arith))
