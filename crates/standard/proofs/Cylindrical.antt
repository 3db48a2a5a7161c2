-- Kind 5: the loaded width is what the rule says; the stretches are that width and the bare ends, and rise with sk.
use Prim.Native.Nat.{ℕ, zero, suc, ◌+◌, ◌-◌, ◌*◌, ◌≤◌, ◌<◌}
use mathlib.Core.Path.{◌≡◌, refl, subst, ◌∙◌}
use mathlib.Core.Bool.{Bool, true, false, cond, not, ◌&&◌}
use mathlib.Core.Logic.{⊎_elim}
use borrow.Author.Tests.{leb-true, le-leb, lt-leb, ltb-true, ltb-false}
use lib.Dec.{leb, ltb}
use native.Mathlib.Decide.{dec_le}
use native.Mathlib.Nat.{mul-le-mul, mul-le-mul_left, mul-pos, le_trans, add-sub_of_le, eq-or-lt_of_le, pos_of_ne-zero}
use native.Mathlib.Omega.{arith}
use Rattle.std.proofs.lemmas.Bool.{false≢true}
use Rattle.figures.specs.Ranges.{within}
use Rattle.figures.proofs.Tests.{clash}
use Rattle.rounding.specs.Fraction.{over}
use Rattle.rounding.specs.Up.{rounded_up}
use Rattle.rounding.specs.Load.{Load, Positive}
use Rattle.rounding.proofs.Ramps.{alone_whole}
use Rattle.rounding.proofs.Rounding.{below_least, up_nothing}
use Rattle.standard.specs.Coefficients.{mu3}
use Rattle.standard.specs.Stretch.{even, load, start_of, eight_tenths, no_load}
use Rattle.standard.specs.Cylindrical.{first_from, wide_enough, loaded_width, arch_even, arch_drift, peak_load, half_load, cylindrical, cylindrical_count}
use Rattle.standard.specs.Units.{parts}
use Rattle.figures.specs.declared.national.National.{National}
use Rattle.standard.proofs.Numerators.{mu3_positive}
use Rattle.standard.proofs.Runs.{Readable, Level, Upward, Rises, WellFormed, returned, formed, outside}
use Rattle.standard.proofs.Runs.{even_readable, even_level, even_ends, ramp_readable, ramp_ends, ramp_beside}
use Rattle.standard.proofs.Loads.{alone_positive, eight_tenths_positive, no_load_positive, steady_up, no_load_up}

-- r is where a search from n on of at most k tries ends
record First (test : ℕ → Bool) (n k r : ℕ) : Type 0 where
  high : r ≤ n + k
  taken : r < n + k → test r ≡ true
  before : (m : ℕ) → n ≤ m → m < r → test m ≡ false

module _ (test : ℕ → Bool) where
  first_step : (n k r : ℕ) (b : Bool) → test n ≡ b → First test (suc n) k r → First test n (suc k) (cond b n r)
  first_step n k r true e f = record { high = omega arith; taken = λ h. e; before = λ m p q. absurd (omega arith) }
  first_step n k r false e f =
      record {
        high = omega (arith, f.high);
        taken = λ h. f.taken (omega arith);
        before = λ m p q. ⊎_elim (λ (same : n ≡ m). rw same at e) (λ (above : n < m). f.before m above q) (eq-or-lt_of_le p);
      }

  first_found : (n k : ℕ) → First test n k (first_from test n k)
  unfolding first_from
  first_found n zero = record { high = omega arith; taken = λ h. absurd (omega arith); before = λ m p q. absurd (omega arith) }
  first_found n (suc k) = first_step n k (first_from test (suc n) k) (test n) refl (first_found (suc n) k)

  first_only : (k r n : ℕ) → First test 0 k r → n ≤ k → test n ≡ true → ((m : ℕ) → m < n → test m ≡ false) → r ≡ n
  first_only k r n f h t b =
      elim (dec_le r n) [
        | yes p ↦ ⊎_elim (λ same. same) (λ below. clash (f.taken (omega arith)) (b r below)) (eq-or-lt_of_le p)
        | no p ↦ clash t (f.before n (omega arith) (omega arith))
      ]

-- (b − a) × (d − c) is not below 0, multiplied out
product : {a b c d : ℕ} → a ≤ b → c ≤ d → a * d + b * c ≤ a * c + b * d
product {a} {b} {c} {d} p q =
    subst (λ (x : ℕ). a * d + x * c ≤ a * c + x * d) (add-sub_of_le p) (omega (arith, mul-le-mul_left (b - a) q))

module _ (rise span : ℕ) where
  -- the rule as an inequality
  abbrev pub Wide : ℕ → Type 0
  Wide ls = 3 * ((span * span + 4 * (rise * rise)) * (span * span + 4 * (rise * rise))) ≤ 8 * rise * ls * (8 * rise * ls)

  pub wide_true : (ls : ℕ) → wide_enough rise span ls ≡ true → Wide ls
  unfolding wide_enough
  wide_true ls e = leb-true _ _ e

  pub true_wide : (ls : ℕ) → Wide ls → wide_enough rise span ls ≡ true
  unfolding wide_enough
  true_wide ls h = le-leb _ _ h

  pub wide_enough_mono : (m n : ℕ) → m ≤ n → wide_enough rise span m ≡ true → wide_enough rise span n ≡ true
  wide_enough_mono m n p e =
      let q : 8 * rise * m ≤ 8 * rise * n = mul-le-mul_left (8 * rise) p in
      true_wide n (le_trans (wide_true m e) (mul-le-mul q q))

  -- At ls = span the right side less the left is (12 × rise² − span²) × (3 × span² − 4 × rise²).
  pub span_wide_enough : 2 * rise ≤ span → span * span < 12 * (rise * rise) → wide_enough rise span span ≡ true
  span_wide_enough p q =
      let sq : 2 * rise * (2 * rise) ≤ span * span = mul-le-mul p p in
      let a : 4 * (rise * rise) ≤ 3 * (span * span) = omega arith in
      let b : span * span ≤ 12 * (rise * rise) = omega arith in
      true_wide span (omega (arith, product a b))

  pub nothing_not_wide : 0 < rise → wide_enough rise span 0 ≡ true → ⊥
  nothing_not_wide h e =
      let p : 0 < span * span + 4 * (rise * rise) = omega (arith, mul-pos h h) in
      omega (arith, wide_true 0 e, mul-pos p p)

  found : First (wide_enough rise span) 0 span (first_from (wide_enough rise span) 0 span)
  found = first_found (wide_enough rise span) 0 span

  found_most : first_from (wide_enough rise span) 0 span ≤ span
  found_most = omega (arith, found.high)

  pub least_unique :
      (n : ℕ) → wide_enough rise span n ≡ true → ((m : ℕ) → m < n → wide_enough rise span m ≡ false) → n ≤ span
      → first_from (wide_enough rise span) 0 span ≡ n
  least_unique n t b h = first_only (wide_enough rise span) span _ n found h t b

  pub steep_width : span * span < 12 * (rise * rise) → loaded_width rise span ≡ first_from (wide_enough rise span) 0 span
  unfolding loaded_width
  steep_width h = rw (lt-leb (12 * (rise * rise)) (span * span) h)

  pub steep_wide_enough : 2 * rise ≤ span → span * span < 12 * (rise * rise) → wide_enough rise span (loaded_width rise span) ≡ true
  steep_wide_enough p h =
      rw (steep_width h)
      (⊎_elim (λ same. rw same (span_wide_enough p h)) (λ below. found.taken (omega arith)) (eq-or-lt_of_le found_most))

  pub steep_least : span * span < 12 * (rise * rise) → (m : ℕ) → m < loaded_width rise span → wide_enough rise span m ≡ false
  steep_least h = rw (steep_width h) (λ m p. found.before m (omega arith) p)

  by_steepness : (P : ℕ → Type 0) → P span → P (first_from (wide_enough rise span) 0 span) → P (loaded_width rise span)
  unfolding loaded_width
  by_steepness P p q = go (leb (12 * (rise * rise)) (span * span))
    where
      go : (b : Bool) → P (cond b span (first_from (wide_enough rise span) 0 span))
      go true = p
      go false = q

  pub width_most : loaded_width rise span ≤ span
  width_most = by_steepness (λ w. w ≤ span) (omega arith) found_most

  all_loaded : ltb (loaded_width rise span) span ≡ false → loaded_width rise span ≡ span
  all_loaded e = omega (arith, ltb-false (loaded_width rise span) span e, width_most)

  pub width_positive : 0 < rise → 2 * rise ≤ span → 0 < loaded_width rise span
  width_positive h p =
      by_steepness (λ w. 0 < w) (omega arith)
      (pos_of_ne-zero (λ z. nothing_not_wide h (rw z at (found.taken (omega arith)))))

no_load_returned : returned no_load ≡ 0
no_load_returned = alone_whole parts (over 0 1) (omega arith) (omega arith) ∙ up_nothing 1

eight_tenths_returned : (factor sk : ℕ) → 0 < factor → 0 < sk → 0 < returned (eight_tenths factor sk)
unfolding rounded_up load
eight_tenths_returned factor sk hf hs =
    omega (
      arith,
      alone_whole parts (load (over 8 10) factor sk) (omega arith) (omega arith),
      below_least (1 * (8 * factor * sk)) (10 * 1000000) 0 (omega arith) (omega (arith, mul-pos hf hs)),
    )

module _ (span ls : ℕ) where
  module _ (some : 0 < ls) where
    -- A row has its bare ends only where they have a length.
    arch_even_readable : (factor sk j : ℕ) → (j ≡ 0 → ls < span) → (1 < j → ls < span) → Readable (arch_even factor sk span ls j)
    unfolding arch_even
    arch_even_readable factor sk zero f g = even_readable _ _ (omega (arith, f refl)) no_load_positive
    arch_even_readable factor sk (suc zero) f g = even_readable _ _ (omega arith) (eight_tenths_positive factor sk)
    arch_even_readable factor sk (suc (suc j)) f g = even_readable _ _ (omega (arith, g (omega arith))) no_load_positive

    arch_even_formed :
        (factor sk : ℕ) (bare : Bool) → (bare ≡ true → ls < span) → (bare ≡ false → ls ≡ span)
        → WellFormed (λ i. arch_even factor sk span ls (cond bare i (suc i))) (cond bare 3 1) (4 * span)
    unfolding arch_even start_of
    arch_even_formed factor sk true f g =
        formed _ _ _ (omega arith) (omega arith) (λ i h. arch_even_readable factor sk i (λ z. f refl) (λ z. f refl)) (omega (arith, f refl))
    arch_even_formed factor sk false f g =
        formed _ _ _ (omega arith) (omega arith)
        (λ i h. arch_even_readable factor sk (suc i) (λ z. absurd (omega arith)) (λ z. absurd (omega arith)))
        (omega (arith, g refl))

    module _ (half peak : Load) (p : Positive half) (q : Positive peak) where
      arch_drift_readable : (j : ℕ) → (j ≡ 0 → ls < span) → (4 < j → ls < span) → Readable (arch_drift half peak span ls j)
      unfolding arch_drift
      arch_drift_readable zero f g = even_readable _ _ (omega (arith, f refl)) no_load_positive
      arch_drift_readable (suc zero) f g = ramp_readable ls no_load half some no_load_positive p
      arch_drift_readable (suc (suc zero)) f g = ramp_readable ls half no_load some p no_load_positive
      arch_drift_readable (suc (suc (suc zero))) f g = ramp_readable ls no_load peak some no_load_positive q
      arch_drift_readable (suc (suc (suc (suc zero)))) f g = ramp_readable ls peak no_load some q no_load_positive
      arch_drift_readable (suc (suc (suc (suc (suc j))))) f g = even_readable _ _ (omega (arith, g (omega arith))) no_load_positive

      arch_drift_formed :
          (bare : Bool) → (bare ≡ true → ls < span) → (bare ≡ false → ls ≡ span)
          → WellFormed (λ i. arch_drift half peak span ls (cond bare i (suc i))) (cond bare 6 4) (4 * span)
      unfolding arch_drift start_of
      arch_drift_formed true f g =
          formed _ _ _ (omega arith) (omega arith) (λ i h. arch_drift_readable i (λ z. f refl) (λ z. f refl)) (omega (arith, f refl))
      arch_drift_formed false f g =
          formed _ _ _ (omega arith) (omega arith)
          (λ i h. arch_drift_readable (suc i) (λ z. absurd (omega arith)) (λ z. absurd (omega arith)))
          (omega (arith, g refl))

  arch_even_rises : (factor s t : ℕ) → s ≤ t → (j : ℕ) → Rises (arch_even factor s span ls j) (arch_even factor t span ls j)
  unfolding arch_even
  arch_even_rises factor s t p zero = even_ends _ _ _ no_load_up
  arch_even_rises factor s t p (suc zero) = even_ends _ _ _ (steady_up factor s t _ p)
  arch_even_rises factor s t p (suc (suc j)) = even_ends _ _ _ no_load_up

  arch_even_level : (factor sk j : ℕ) → Level (arch_even factor sk span ls j)
  unfolding arch_even
  arch_even_level factor sk zero = even_level _ _
  arch_even_level factor sk (suc zero) = even_level _ _
  arch_even_level factor sk (suc (suc j)) = even_level _ _

  arch_even_apart :
      (factor sk : ℕ) → 0 < factor → 0 < sk → (bare : Bool) (i : ℕ) → suc i < cond bare 3 1
      → returned (arch_even factor sk span ls (cond bare i (suc i))).from
      ≡ returned (arch_even factor sk span ls (cond bare (suc i) (suc (suc i)))).from → ⊥
  unfolding arch_even
  arch_even_apart factor sk hf hs true zero c e = omega (arith, no_load_returned, eight_tenths_returned factor sk hf hs)
  arch_even_apart factor sk hf hs true (suc zero) c e = omega (arith, no_load_returned, eight_tenths_returned factor sk hf hs)
  arch_even_apart factor sk hf hs true (suc (suc i)) c e = omega arith
  arch_even_apart factor sk hf hs false i c e = omega arith

  arch_drift_rises :
      (half peak half' peak' : Load) → Upward half half' → Upward peak peak' → (j : ℕ)
      → Rises (arch_drift half peak span ls j) (arch_drift half' peak' span ls j)
  unfolding arch_drift
  arch_drift_rises half peak half' peak' p q zero = even_ends _ _ _ no_load_up
  arch_drift_rises half peak half' peak' p q (suc zero) = ramp_ends ls _ _ _ _ no_load_up p
  arch_drift_rises half peak half' peak' p q (suc (suc zero)) = ramp_ends ls _ _ _ _ p no_load_up
  arch_drift_rises half peak half' peak' p q (suc (suc (suc zero))) = ramp_ends ls _ _ _ _ no_load_up q
  arch_drift_rises half peak half' peak' p q (suc (suc (suc (suc zero)))) = ramp_ends ls _ _ _ _ q no_load_up
  arch_drift_rises half peak half' peak' p q (suc (suc (suc (suc (suc j))))) = even_ends _ _ _ no_load_up

  arch_drift_level : (half peak : Load) (j : ℕ) → (1 ≤ j → j ≤ 4 → ⊥) → Level (arch_drift half peak span ls j)
  unfolding arch_drift
  arch_drift_level half peak zero o = even_level _ _
  arch_drift_level half peak (suc zero) o = absurd (o (omega arith) (omega arith))
  arch_drift_level half peak (suc (suc zero)) o = absurd (o (omega arith) (omega arith))
  arch_drift_level half peak (suc (suc (suc zero))) o = absurd (o (omega arith) (omega arith))
  arch_drift_level half peak (suc (suc (suc (suc zero)))) o = absurd (o (omega arith) (omega arith))
  arch_drift_level half peak (suc (suc (suc (suc (suc j))))) o = even_level _ _

module _ (national : National) (factor rise span : ℕ) where
  half_positive : (sk : ℕ) → 0 < span → Positive (half_load national factor sk rise span)
  unfolding half_load
  half_positive sk h = alone_positive _ factor sk (mul-pos (omega arith) (mu3_positive national rise span h))

  peak_positive : (sk : ℕ) → 0 < span → Positive (peak_load national factor sk rise span)
  unfolding peak_load
  peak_positive sk h = alone_positive (mu3 national rise span) factor sk (mu3_positive national rise span h)

  half_up : (s t : ℕ) → s ≤ t → Upward (half_load national factor s rise span) (half_load national factor t rise span)
  unfolding half_load
  half_up s t p = steady_up factor s t _ p

  peak_up : (s t : ℕ) → s ≤ t → Upward (peak_load national factor s rise span) (peak_load national factor t rise span)
  unfolding peak_load
  peak_up s t p = steady_up factor s t _ p

  pub cylindrical_formed :
      (undrifted : Bool) (sk : ℕ) → 0 < rise → 2 * rise ≤ span
      → WellFormed (cylindrical national factor sk rise span undrifted) (cylindrical_count rise span undrifted) (4 * span)
  unfolding cylindrical cylindrical_count
  cylindrical_formed true sk r h =
      arch_even_formed span (loaded_width rise span) (width_positive rise span r h) factor sk
      (ltb (loaded_width rise span) span) (ltb-true _ _) (all_loaded rise span)
  cylindrical_formed false sk r h =
      let s : 0 < span = omega arith in
      arch_drift_formed span (loaded_width rise span) (width_positive rise span r h)
      (half_load national factor sk rise span) (peak_load national factor sk rise span) (half_positive sk s) (peak_positive sk s)
      (ltb (loaded_width rise span) span) (ltb-true _ _) (all_loaded rise span)

  pub cylindrical_rises :
      (undrifted : Bool) (s t i : ℕ) → s ≤ t
      → Rises (cylindrical national factor s rise span undrifted i) (cylindrical national factor t rise span undrifted i)
  unfolding cylindrical
  cylindrical_rises true s t i p = arch_even_rises span (loaded_width rise span) factor s t p _
  cylindrical_rises false s t i p = arch_drift_rises span (loaded_width rise span) _ _ _ _ (half_up s t p) (peak_up s t p) _

  pub cylindrical_level :
      (undrifted : Bool) (sk i : ℕ) → (not undrifted && within 1 4 (cond (ltb (loaded_width rise span) span) i (suc i))) ≡ false
      → Level (cylindrical national factor sk rise span undrifted i)
  unfolding cylindrical
  cylindrical_level true sk i e = arch_even_level span (loaded_width rise span) factor sk _
  cylindrical_level false sk i e = arch_drift_level span (loaded_width rise span) _ _ _ (outside 1 4 _ e)

  -- In code 1 the bare ends stand beside 0.8, and in code 2 beside ramps.
  pub cylindrical_apart :
      (undrifted : Bool) (sk i : ℕ) → 0 < factor → 0 < sk → suc i < cylindrical_count rise span undrifted
      → (not undrifted && within 1 4 (cond (ltb (loaded_width rise span) span) i (suc i))) ≡ false
      → (not undrifted && within 1 4 (cond (ltb (loaded_width rise span) span) (suc i) (suc (suc i)))) ≡ false
      → returned (cylindrical national factor sk rise span undrifted i).from
      ≡ returned (cylindrical national factor sk rise span undrifted (suc i)).from → ⊥
  unfolding cylindrical cylindrical_count
  cylindrical_apart true sk i hf hs c e e' d =
      arch_even_apart span (loaded_width rise span) factor sk hf hs (ltb (loaded_width rise span) span) i c d
  cylindrical_apart false sk i hf hs c e e' d =
      ramp_beside (ltb (loaded_width rise span) span) 4 i (omega arith) (at_most (ltb (loaded_width rise span) span) c) e e'
    where
      at_most : (bare : Bool) → suc i < cond bare 6 4 → suc i < cond bare 1 0 + (4 + 1)
      at_most true c = omega arith
      at_most false c = omega arith

-- the row of code 1 of an arch, and of code 2
pub even_bare : (factor sk span ls j : ℕ) → (j ≡ 1 → ⊥) → arch_even factor sk span ls j ≡ even (2 * (span - ls)) no_load
unfolding arch_even
even_bare factor sk span ls zero h = refl
even_bare factor sk span ls (suc zero) h = absurd (h refl)
even_bare factor sk span ls (suc (suc j)) h = refl

pub drift_bare :
    (half peak : Load) (span ls j : ℕ) → (j ≡ 1 → ⊥) → (j ≡ 2 → ⊥) → (j ≡ 3 → ⊥) → (j ≡ 4 → ⊥)
    → arch_drift half peak span ls j ≡ even (2 * (span - ls)) no_load
unfolding arch_drift
drift_bare half peak span ls zero a b c d = refl
drift_bare half peak span ls (suc zero) a b c d = absurd (a refl)
drift_bare half peak span ls (suc (suc zero)) a b c d = absurd (b refl)
drift_bare half peak span ls (suc (suc (suc zero))) a b c d = absurd (c refl)
drift_bare half peak span ls (suc (suc (suc (suc zero)))) a b c d = absurd (d refl)
drift_bare half peak span ls (suc (suc (suc (suc (suc j))))) a b c d = refl

-- where the index stands in the full row, a stretch at the row's ends has a length
pub record ArchRow (undrifted : Bool) (ls span i j : ℕ) : Type 0 where
  pub few : i < 32
  pub first : j ≡ 0 → ls < span
  pub even_last : undrifted ≡ true → (j ≡ 1 → ⊥) → ls < span
  pub drift_last : undrifted ≡ false → 4 < j → ls < span

arch_row_by :
    (undrifted b : Bool) (ls span i : ℕ) → (b ≡ true → ls < span) → i < cond undrifted (cond b 3 1) (cond b 6 4)
    → ArchRow undrifted ls span i (cond b i (suc i))
arch_row_by true true ls span i f h = record { few = omega arith; first = λ e. f refl; even_last = λ e g. f refl; drift_last = λ e g. f refl }
arch_row_by true false ls span i f h =
    record { few = omega arith; first = λ e. absurd (omega arith); even_last = λ e g. absurd (g (omega arith)); drift_last = λ e g. absurd (omega arith) }
arch_row_by false true ls span i f h = record { few = omega arith; first = λ e. f refl; even_last = λ e g. f refl; drift_last = λ e g. f refl }
arch_row_by false false ls span i f h =
    record {
      few = omega arith;
      first = λ e. absurd (omega arith);
      even_last = λ e g. absurd (false≢true e);
      drift_last = λ e g. absurd (omega arith);
    }

counted : (rise span i : ℕ) (undrifted : Bool) → i < cylindrical_count rise span undrifted
    → i < cond undrifted (cond (ltb (loaded_width rise span) span) 3 1) (cond (ltb (loaded_width rise span) span) 6 4)
unfolding cylindrical_count
counted rise span i true h = h
counted rise span i false h = h

pub arch_row :
    (undrifted : Bool) (rise span i ls j : ℕ) → i < cylindrical_count rise span undrifted → ls ≡ loaded_width rise span
    → j ≡ cond (ltb ls span) i (suc i) → ArchRow undrifted ls span i j
arch_row undrifted rise span i ls j h e f =
    rw f (arch_row_by undrifted (ltb ls span) ls span i (ltb-true ls span) (rw e (counted rise span i undrifted h)))

pub arch_few : (undrifted : Bool) (rise span i : ℕ) → i < cylindrical_count rise span undrifted → i < 32
arch_few undrifted rise span i h = (arch_row undrifted rise span i _ _ h refl refl).few

-- outside the four triangles of an arch, its ends are bare
pub bare_ends : (j ls span : ℕ) → (j ≡ 0 → ls < span) → (4 < j → ls < span) → (j ≡ 1 → ⊥) → (j ≡ 2 → ⊥) → (j ≡ 3 → ⊥) → (j ≡ 4 → ⊥) → ls < span
bare_ends zero ls span f g a b c d = f refl
bare_ends (suc j) ls span f g a b c d = g (omega arith)
