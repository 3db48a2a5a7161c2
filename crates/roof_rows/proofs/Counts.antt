-- How many rows a roof's arrangements have: those of a pitched roof 2 segments each; where a roof has exceptional drifts, codes 1 and 11
-- at most 32 and each of 15 drifts 4; and any other roof four codes of at most 32.
use Prim.Native.Nat.{ℕ, zero, suc, ◌+◌, ◌-◌, ◌≤◌, ◌<◌}
use mathlib.Core.Bool.{Bool, true, false, cond, ◌||◌}
use mathlib.Core.Path.{◌≡◌, refl, sym, ◌∙◌}
use mathlib.Core.List.{[], append-nil}
use lib.Dec.{eqb}
use native.Mathlib.Omega.{arith}
use borrow.Author.Tests.{eqb-true, eqb-false, le-leb}
use Rattle.figures.specs.Ranges.{within}
use Rattle.figures.specs.RoofRules.{kind_of, drifts_of}
use Rattle.figures.specs.declared.site.Site.{Site}
use Rattle.figures.specs.declared.roof.Roof.{Roof}
use Rattle.figures.proofs.Accepted.{range, shape_in, few_drifts}
use Rattle.figures.proofs.Laws.{both}
use Rattle.roof_rows.specs.Rows.{code_rows, codes_rows, arrangement_rows, row_count, row_counts}
use Rattle.standard.specs.Arrangements.{exists, count}
use Rattle.figures.specs.Bounds.{FiguresIn}
use Rattle.standard.specs.Codes.{drift_kind, drifts_in, base_code, names_drift, highest_code, first_code, last_code}
use Rattle.figures.specs.declared.national.National.{National}
use Rattle.standard.proofs.Codes.{persistent_codes, base_persistent, with_drifts, named_base, codes_in, past_first, last_highest}
use Rattle.standard.proofs.Demand.{well_formed, few_segments}

-- the most rows of one code, and of codes 1 to n: of a pitched roof, of one with drifts, of any other
most : Bool → Bool → ℕ → ℕ
most true drifts code = cond (within 1 3 (base_code code)) 2 0
most false true code = cond (eqb (base_code code) 1) 32 (cond (within 31 45 code) 4 0)
most false false code = cond (within 1 2 (base_code code)) 32 0

mosts : Bool → Bool → ℕ → ℕ
mosts pitched drifts zero = 0
mosts pitched drifts (suc n) = mosts pitched drifts n + most pitched drifts (suc n)

all_most : (pitched drifts : Bool) → mosts pitched drifts highest_code ≤ 128
unfolding mosts most
all_most true true = omega arith
all_most true false = omega arith
all_most false true = omega arith
all_most false false = omega arith

not_true_is : (b : Bool) → (b ≡ true → ⊥) → b ≡ false
not_true_is true h = absurd (h refl)
not_true_is false h = refl

module _ (national : National) (s : Site) (r : Roof) (h : FiguresIn national s r) where
  abbrev pitched : Bool
  pitched = eqb (kind_of r.shape) 3

  abbrev drifts : Bool
  drifts = drifts_in (kind_of r.shape) s.situation

  pub code_few : (code : ℕ) → count national r code ≤ 32
  code_few code = (well_formed national s r code h.national h.site h.roof).few

  pub drifts_few : drifts_of r.shape ≤ 15
  drifts_few = few_drifts r.shape r.spans (shape_in r.shape r.spans h.roof)

  pitched_most : (code : ℕ) → kind_of r.shape ≡ 3 → count national r code ≤ 2
  unfolding count
  pitched_most code k = (few_segments national r.shape (base_code code)).pitched k

  drift_most : (code : ℕ) → drifts_in (kind_of r.shape) s.situation ≡ true → names_drift (drifts_of r.shape) code ≡ true → count national r code ≤ 4
  unfolding count
  drift_most code d n =
      (few_segments national r.shape (base_code code)).drift (both (drift_kind (kind_of r.shape)) (within 2 3 s.situation) d).0
      (rw (named_base _ code n) n)

  code_most : (code : ℕ) → exists s r code ≡ true → (p d : Bool) → pitched ≡ p → drifts ≡ d → count national r code ≤ most p d code
  unfolding exists most
  code_most code e true d a b =
      let k = eqb-true (kind_of r.shape) 3 a in
      let w = (persistent_codes (kind_of r.shape) (base_code code) (base_persistent _ _ _ code e (rw k))).codes in
      rw (le-leb 1 (base_code code) w.low, le-leb (base_code code) 3 w.high) (pitched_most code k)
  code_most code e false true a b = go (eqb (base_code code) 1) (with_drifts _ _ _ code e b)
    where
      go :
          (c : Bool) → (c || names_drift (drifts_of r.shape) code) ≡ true
          → count national r code ≤ cond c 32 (cond (within 31 45 code) 4 0)
      go true n = code_few code
      go false n =
          let w = range 31 (30 + drifts_of r.shape) code n in
          rw (le-leb 31 code w.low, le-leb code 45 (omega (arith, w.high, drifts_few))) (drift_most code b n)
  code_most code e false false a b =
      let w = persistent_codes (kind_of r.shape) (base_code code) (base_persistent _ _ _ code e b) in
      let three : base_code code ≡ 3 → ⊥ = λ z. eqb-false (kind_of r.shape) 3 a (w.third z) in
      rw (le-leb 1 (base_code code) w.codes.low, le-leb (base_code code) 2 (omega (arith, w.codes.high, three))) (code_few code)

  row_most : (code : ℕ) → row_count national s r code ≤ most pitched drifts code
  unfolding row_count
  row_most code = go (exists s r code) refl
    where
      go : (b : Bool) → exists s r code ≡ b → cond b (count national r code) 0 ≤ most pitched drifts code
      go true e = code_most code e pitched drifts refl refl
      go false e = omega arith

  rows_most_by : (n : ℕ) → row_counts national s r n ≤ mosts pitched drifts n
  unfolding row_counts mosts
  rows_most_by zero = omega arith
  rows_most_by (suc n) = omega (arith, rows_most_by n, row_most (suc n))

  pub rows_most : row_counts national s r highest_code ≤ 128
  rows_most = omega (arith, rows_most_by highest_code, all_most pitched drifts)

  -- codes 1 to n have no more rows than all of them
  rows_up : (n k : ℕ) → row_counts national s r n ≤ row_counts national s r (n + k)
  unfolding row_counts
  rows_up n zero = let e : n + 0 ≡ n = omega arith in rw e (omega arith)
  rows_up n (suc k) = let e : n + suc k ≡ suc (n + k) = omega arith in rw e (omega (arith, rows_up n k))

  pub rows_within : (n : ℕ) → n ≤ highest_code → row_counts national s r n ≤ 128
  rows_within n p =
      let e : n + (highest_code - n) ≡ highest_code = omega arith in
      let up : row_counts national s r n ≤ row_counts national s r highest_code = rw e at (rows_up n (highest_code - n)) in
      omega (arith, rows_most)

  -- no code exists above the roof's last
  abbrev last : ℕ
  last = last_code (kind_of r.shape) s.situation (drifts_of r.shape)

  pub last_low : last ≤ highest_code
  last_low = last_highest (kind_of r.shape) s.situation (drifts_of r.shape) drifts_few

  none_past : (code : ℕ) → last < code → exists s r code ≡ false
  unfolding exists
  none_past code lt = not_true_is (exists s r code) (λ e. omega (arith, (codes_in (kind_of r.shape) s.situation (drifts_of r.shape) code e).high))

  codes_past : (item k : ℕ) → codes_rows national s r item (last + k) ≡ codes_rows national s r item last
  unfolding codes_rows code_rows
  codes_past item zero = let e : last + 0 ≡ last = omega arith in rw e
  codes_past item (suc k) =
      let e : last + suc k ≡ suc (last + k) = omega arith in
      rw (e, none_past (suc (last + k)) (omega arith), codes_past item k) (append-nil _)

  -- so the rows of all codes are those of the codes up to it, and past it
  pub rows_past : (item n : ℕ) → last ≤ n → codes_rows national s r item n ≡ arrangement_rows national s r item
  unfolding arrangement_rows
  rows_past item n h =
      let a : last + (n - last) ≡ n = omega arith in
      let b : last + (highest_code - last) ≡ highest_code = omega (arith, last_low) in
      rw a at (codes_past item (n - last)) ∙ rw b at (sym (codes_past item (highest_code - last)))

  -- no code exists below the kind's first, so there are no rows of those
  none_before : (code : ℕ) → code < first_code (kind_of r.shape) → exists s r code ≡ false
  unfolding exists
  none_before code lt = not_true_is (exists s r code) (λ e. omega (arith, past_first (kind_of r.shape) s.situation (drifts_of r.shape) code e))

  pub rows_before : (item n : ℕ) → n < first_code (kind_of r.shape) → codes_rows national s r item n ≡ []
  unfolding codes_rows code_rows
  rows_before item zero lt = refl
  rows_before item (suc n) lt = rw (none_before (suc n) lt, rows_before item n (omega arith))
