-- The definitions count a test from one slope, valley or set to the next. So it is the test of a list of their numbers.
use Prim.Native.Nat.{ℕ, zero, suc, ◌+◌, ◌*◌}
use mathlib.Core.Bool.{Bool, true, false, ◌&&◌, ◌||◌}
use mathlib.Core.List.{List, [], ◌∷◌, ◌++◌}
use mathlib.Core.Path.{◌≡◌, refl, ap, sym, ◌∙◌}
use native.Mathlib.Omega.{arith}
use Rattle.std.specs.List.{list_all, list_any, range_with_len}
use Rattle.std.proofs.lemmas.List.Folds.{list_all-append, list_any-append}
use Rattle.figures.specs.RoofRules.{slope_fields, slopes_fields, valley_fields, valleys_fields, steep_valley, steep_valleys}
use Rattle.figures.specs.Spans.{slope_of, valley_of}
use Rattle.figures.specs.Store.{earliest_day, set_sound, sets_sound}
use Rattle.figures.specs.declared.national.NationalSet.{NationalSet}
use Rattle.figures.specs.declared.slopes.Spans.{Spans}

one_more : (a n : ℕ) → range_with_len a (suc n) ≡ range_with_len a n ++ (a + n) ∷ []
one_more a zero = let e : a ≡ a + 0 = omega arith in ap {B = List ℕ} (λ (x : ℕ). x ∷ []) e
one_more a (suc n) =
    let e : a + 1 + n ≡ a + suc n = omega arith in
    ap (λ l. a ∷ l) (one_more (a + 1) n ∙ ap {B = List ℕ} (λ (x : ℕ). range_with_len (a + 1) n ++ (x ∷ [])) e)

one_further : (n : ℕ) → range_with_len 0 (suc n) ≡ range_with_len 0 n ++ n ∷ []
one_further n = let e : 0 + n ≡ n = omega arith in one_more 0 n ∙ ap {B = List ℕ} (λ (x : ℕ). range_with_len 0 n ++ (x ∷ [])) e

and_true : (b : Bool) → (b && true) ≡ b
and_true true = refl
and_true false = refl

or_false : (b : Bool) → (b || false) ≡ b
or_false true = refl
or_false false = refl

-- any test, counted from one number to the next
module _ (test so_far : ℕ → Bool) where
  pub all_counted : so_far 0 ≡ true → ((i : ℕ) → so_far (suc i) ≡ (so_far i && test i)) → (n : ℕ) → list_all test (range_with_len 0 n) ≡ so_far n
  all_counted none more zero = sym none
  all_counted none more (suc n) =
      ap (list_all test) (one_further n) ∙ list_all-append test (range_with_len 0 n) (n ∷ [])
      ∙ ap (λ b. list_all test (range_with_len 0 n) && b) (and_true (test n))
      ∙ ap (λ b. b && test n) (all_counted none more n) ∙ sym (more n)

  pub any_counted : so_far 0 ≡ false → ((i : ℕ) → so_far (suc i) ≡ (so_far i || test i)) → (n : ℕ) → list_any test (range_with_len 0 n) ≡ so_far n
  any_counted none more zero = sym none
  any_counted none more (suc n) =
      ap (list_any test) (one_further n) ∙ list_any-append test (range_with_len 0 n) (n ∷ [])
      ∙ ap (λ b. list_any test (range_with_len 0 n) || b) (or_false (test n))
      ∙ ap (λ b. b || test n) (any_counted none more n) ∙ sym (more n)

module _ (spans : Spans) (n : ℕ) where
  pub slopes_counted : list_all (λ i. slope_fields (slope_of spans i)) (range_with_len 0 n) ≡ slopes_fields spans n
  unfolding slopes_fields
  slopes_counted = all_counted (λ i. slope_fields (slope_of spans i)) (slopes_fields spans) refl (λ i. refl) n

  pub valleys_counted : list_all (λ i. valley_fields (valley_of spans i)) (range_with_len 0 n) ≡ valleys_fields spans n
  unfolding valleys_fields
  valleys_counted = all_counted (λ i. valley_fields (valley_of spans i)) (valleys_fields spans) refl (λ i. refl) n

  pub steep_counted :
      list_any (λ i. steep_valley (slope_of spans (2 * i + 1)).pitch (slope_of spans (2 * i + 2)).pitch) (range_with_len 0 n) ≡ steep_valleys spans n
  unfolding steep_valleys
  steep_counted = any_counted (λ i. steep_valley (slope_of spans (2 * i + 1)).pitch (slope_of spans (2 * i + 2)).pitch) (steep_valleys spans) refl (λ i. refl) n

pub sets_counted : (run : ℕ → NationalSet) (n : ℕ) → list_all (λ i. set_sound (earliest_day run i) (run i)) (range_with_len 0 n) ≡ sets_sound run n
unfolding sets_sound
sets_counted run n = all_counted (λ i. set_sound (earliest_day run i) (run i)) (sets_sound run) refl (λ i. refl) n
