-- What working in tenths changes: no load that is returned rises, none drops by more than 2, and no position moves.
use Prim.Native.Nat.{ℕ, zero, suc, ◌/◌, ◌%◌, ◌≤◌, ◌<◌}
use mathlib.Core.List.{List, [], append-nil}
use mathlib.Core.Path.{◌≡◌, refl, subst, sym, ◌∙◌}
use lib.ListN.{length, get_or, get_or-eq_default}
use native.Mathlib.Decide.{dec_le}
use native.Mathlib.Omega.{arith}
use Rattle.figures.specs.RoofRules.{roof_refusal}
use Rattle.figures.specs.SiteRules.{site_refusal}
use Rattle.figures.specs.declared.site.Site.{Site}
use Rattle.figures.specs.declared.roof.Roof.{Roof}
use Rattle.standard.specs.Answers.{value, national_for, load_answer}
use Rattle.standard.specs.Arrangements.{count, stretch, arrangement_in_parts, arrangement, load_in_parts, load_at}
use Rattle.figures.specs.Bounds.{NationalIn}
use Rattle.standard.specs.Stretch.{Stretch, segment, segments}
use Rattle.standard.specs.Tenths.{Changed}
use Rattle.figures.specs.declared.national.National.{National}
use Rattle.standard.proofs.Answered.{answered}
use Rattle.standard.proofs.Demand.{well_formed}
use Rattle.standard.proofs.Runs.{Readable, tenths_no_more, tenths_close, finer_greatest, tenths_greatest_close}
use Rattle.standard.proofs.Segments.{segments_length, place}

same_changed : (x : ℕ) → Changed x x
same_changed x = record { no_rise = omega arith; small_drop = omega arith }

-- the numbers of one segment
module _ (S : ℕ → Stretch) (i : ℕ) (f : Readable (S i)) where
  segment_changes : (j : ℕ) → j < 4 → Changed (get_or (segment 10 S i) j 0) (get_or (segment 1 S i) j 0)
  unfolding segment
  segment_changes zero h = same_changed _
  segment_changes (suc zero) h = same_changed _
  segment_changes (suc (suc zero)) h = record { no_rise = tenths_no_more (S i) 0 f; small_drop = tenths_close (S i) 0 f (omega arith) }
  segment_changes (suc (suc (suc zero))) h =
      record { no_rise = tenths_no_more (S i) (S i).extent f; small_drop = tenths_close (S i) (S i).extent f (omega arith) }
  segment_changes (suc (suc (suc (suc j)))) h = absurd (omega arith)

segment_positions : (S : ℕ → Stretch) (i j : ℕ) → j < 2 → get_or (segment 10 S i) j 0 ≡ get_or (segment 1 S i) j 0
unfolding segment
segment_positions S i zero h = refl
segment_positions S i (suc zero) h = refl
segment_positions S i (suc (suc j)) h = absurd (omega arith)

-- a number of a run of segments: behind the last there is none
module _ (g : ℕ) (S : ℕ → Stretch) (n k : ℕ) where
  number_in : k / 4 < n → get_or (segments g S n) k 0 ≡ get_or (segment g S (k / 4)) (k % 4) 0
  number_in h =
      subst (λ l. get_or l k 0 ≡ get_or (segment g S (k / 4)) (k % 4) 0) (append-nil (segments g S n))
      (place g S n (k / 4) k (k % 4) [] h (omega arith) (omega arith))

  number_behind : n ≤ k / 4 → get_or (segments g S n) k 0 ≡ 0
  number_behind h = get_or-eq_default (segments g S n) 0 (omega (arith, segments_length g S n))

-- What holds of a number of one segment, worked both ways, holds of it among all segments.
module _ (S : ℕ → Stretch) (n k : ℕ) where
  by_segment :
      (R : ℕ → ℕ → Type 0) → R 0 0 → (k / 4 < n → R (get_or (segment 10 S (k / 4)) (k % 4) 0) (get_or (segment 1 S (k / 4)) (k % 4) 0))
      → R (get_or (segments 10 S n) k 0) (get_or (segments 1 S n) k 0)
  by_segment R none one =
      elim (dec_le n (k / 4)) [
        | yes a ↦ rw (number_behind 10 S n k a, number_behind 1 S n k a) none
        | no a ↦ let b : k / 4 < n = omega arith in rw (number_in 10 S n k b, number_in 1 S n k b) (one b)
      ]

-- the theorems, for every accepted site and roof
module _ (national : National) (site : Site) (roof : Roof) (code : ℕ)
    (hn : NationalIn national) (hs : site_refusal site ≡ 0) (hr : roof_refusal roof ≡ 0) where
  pub load_changes : (p : ℕ) → Changed (load_at national site roof code p) (load_in_parts 1 national site roof code p)
  unfolding load_in_parts
  load_changes p =
      let S = stretch national site roof code in
      let n = count national roof code in
      let f = (well_formed national site roof code hn hs hr).each in
      record { no_rise = finer_greatest S p 1 10 n (omega arith) (omega arith) f; small_drop = tenths_greatest_close S p n f }

  -- every number of every segment
  pub number_changes : (k : ℕ) → Changed (get_or (arrangement national site roof code) k 0) (get_or (arrangement_in_parts 1 national site roof code) k 0)
  unfolding arrangement_in_parts
  number_changes k =
      let S = stretch national site roof code in
      let f = (well_formed national site roof code hn hs hr).each in
      by_segment S (count national roof code) k Changed (same_changed 0) (λ b. segment_changes S (k / 4) (f (k / 4) b) (k % 4) (omega arith))

  pub same_numbers : length (arrangement national site roof code) ≡ length (arrangement_in_parts 1 national site roof code)
  unfolding arrangement_in_parts
  same_numbers = segments_length 10 _ (count national roof code) ∙ sym (segments_length 1 _ (count national roof code))

  -- starts and ends, the first two of a segment's four numbers
  pub position_stays :
      (k : ℕ) → k % 4 < 2 → get_or (arrangement national site roof code) k 0 ≡ get_or (arrangement_in_parts 1 national site roof code) k 0
  unfolding arrangement_in_parts
  position_stays k h =
      let S = stretch national site roof code in
      by_segment S (count national roof code) k (λ x y. x ≡ y) refl (λ b. segment_positions S (k / 4) (k % 4) h)

-- the same of what the call that reads a load answers
pub answer_changes :
    (store : List ℕ) (site : Site) (roof : Roof) (code p x : ℕ) → load_answer store site roof code p ≡ value x
    → Changed x (load_in_parts 1 (national_for store site) site roof code p)
answer_changes store site roof code p x e =
    let a = answered store site roof code p x e in
    let f = a.rules in
    rw a.load at (load_changes (national_for store site) site roof code f.national f.site f.roof p)
