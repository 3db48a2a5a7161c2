-- What an accepted store keeps: the ranges of its sets, and so of the set in use.
use Prim.Native.Nat.{ℕ, zero, suc, ◌+◌, ◌≤◌, ◌<◌}
use mathlib.Core.Bool.{Bool, true, false, cond, ◌&&◌}
use mathlib.Core.List.{List}
use Rattle.std.specs.Prelude.{Option, Some, None}
use mathlib.Core.Path.{◌≡◌, refl}
use borrow.Author.Tests.{leb-true, eqb-true, eq-eqb, le-leb, lt-leb}
use lib.Dec.{leb, eqb}
use lib.ListN.{length}
use native.Mathlib.Omega.{arith}
use Rattle.figures.specs.Bounds.{NationalIn}
use Rattle.figures.specs.National.{recommended_figures, figures_sound}
use Rattle.figures.specs.Ranges.{within}
use Rattle.figures.specs.Refusals.{figures_refusal}
use Rattle.figures.specs.RoofRules.{roof_refusal}
use Rattle.figures.specs.SiteRules.{site_refusal}
use Rattle.figures.specs.Store.{set_count, set_at, earliest_day, set_sound, sets_sound, store_fits, store_refusal}
use Rattle.figures.specs.Store.{last_begun, set_in_use, begun_number, day_refusal, begun_figures, figures_in_use}
use Rattle.figures.specs.declared.national.National.{National}
use Rattle.figures.specs.declared.national.NationalSet.{NationalSet}
use Rattle.figures.specs.declared.site.Site.{Site}
use Rattle.figures.specs.declared.roof.Roof.{Roof}
use Rattle.figures.proofs.Accepted.{range}
use Rattle.figures.proofs.Laws.{both, within_in, none_broken}

pub zero_held : (b : Bool) → ◌≡◌ {A = ℕ} (cond b 0 18) 0 → b ≡ true
zero_held true e = refl
zero_held false e = absurd (omega arith)

-- what an accepted store keeps
pub record StoreKept (store : List ℕ) : Type 0 where
  pub all : length store ≡ 193
  pub few : set_count store ≤ 32
  pub sound : sets_sound (set_at store) (set_count store) ≡ true

pub store_kept : (store : List ℕ) → store_refusal store ≡ 0 → StoreKept store
unfolding store_refusal
store_kept store h =
    let a = store_fits (length store) (set_count store) in
    let b = sets_sound (set_at store) (set_count store) in
    let p = both a b (zero_held (a && b) h) in
    let q = both (eqb (length store) 193) (leb (set_count store) 32) p.0 in
    record { all = eqb-true (length store) 193 q.0; few = leb-true (set_count store) 32 q.1; sound = p.1 }

pub store_accepted : (store : List ℕ) → StoreKept store → store_refusal store ≡ 0
unfolding store_refusal
store_accepted store k = rw (eq-eqb (length store) 193 k.all, le-leb (set_count store) 32 k.few, k.sound)

-- the ranges that a sound set's figures keep
pub figures_in : (n : National) → figures_sound n ≡ true → NationalIn n
figures_in n h =
    let a = within 1 800 n.arch in
    let b = within 1 800 n.low in
    let c = within 1 800 n.high in
    let d = leb n.low n.high in
    let e = within 1000 30000 n.short in
    let f = within 1000 30000 n.long in
    let p = both (a && b && c && d && e && f) (leb n.short n.long) h in
    let q = both (a && b && c && d && e) f p.0 in
    let r = both (a && b && c && d) e q.0 in
    let t = both (a && b && c) d r.0 in
    let u = both (a && b) c t.0 in
    let v = both a b u.0 in
    record {
      arch = range 1 800 n.arch v.0;
      low = range 1 800 n.low v.1;
      high = range 1 800 n.high u.1;
      short = range 1000 30000 n.short r.1;
      long = range 1000 30000 n.long q.1;
    }

pub recommended_in : NationalIn recommended_figures
recommended_in = figures_in recommended_figures refl

set_in : (first : ℕ) (s : NationalSet) → set_sound first s ≡ true → NationalIn s.figures
unfolding set_sound
set_in first s h = figures_in s.figures (both (within first 65535 s.day) (figures_sound s.figures) h).1

chosen_in : (b : Bool) (rest : Option National) (g : National) → NationalIn g → NationalIn (begun_figures rest) → NationalIn (begun_figures (cond b (Some g) rest))
chosen_in true rest g h k = h
chosen_in false rest g h k = k

chosen_number : (b : Bool) (rest : Option National) (g : National) → begun_number rest ≡ 0 → begun_number (cond b (Some g) rest) ≡ 0
chosen_number true rest g h = refl
chosen_number false rest g h = h

module _ (run : ℕ → NationalSet) (day : ℕ) where
  begun_in : (n : ℕ) → sets_sound run n ≡ true → NationalIn (begun_figures (last_begun run day n))
  unfolding sets_sound last_begun
  begun_in zero h = recommended_in
  begun_in (suc n) h =
      let p = both (sets_sound run n) (set_sound (earliest_day run n) (run n)) h in
      chosen_in (leb (run n).day day) (last_begun run day n) (run n).figures (set_in (earliest_day run n) (run n) p.1) (begun_in n p.0)

  -- no set begins before the first
  first_least : (n : ℕ) → sets_sound run (suc n) ≡ true → (run 0).day ≤ (run n).day
  unfolding sets_sound set_sound
  first_least zero h = omega arith
  first_least (suc n) h =
      let p = both (sets_sound run (suc n)) (set_sound ((run n).day + 1) (run (suc n))) h in
      let q = both (within ((run n).day + 1) 65535 (run (suc n)).day) (figures_sound (run (suc n)).figures) p.1 in
      omega (arith, first_least n p.0, (within_in ((run n).day + 1) 65535 (run (suc n)).day q.0).0)

  -- so none has begun before the first, and one has from its first day on
  pub none_yet : (n : ℕ) → sets_sound run n ≡ true → day < (run 0).day → last_begun run day n ≡ None
  unfolding sets_sound last_begun
  none_yet zero h k = refl
  none_yet (suc n) h k =
      let p = both (sets_sound run n) (set_sound (earliest_day run n) (run n)) h in
      rw (lt-leb (run n).day day (omega (arith, first_least n h)), none_yet n p.0 k)

  pub one_begun : (n : ℕ) → (run 0).day ≤ day → begun_number (last_begun run day (suc n)) ≡ 0
  unfolding last_begun
  one_begun zero k = rw (le-leb (run 0).day day k)
  one_begun (suc n) k = chosen_number (leb (run (suc n)).day day) (last_begun run day (suc n)) (run (suc n)).figures (one_begun n k)

-- the set in use of an accepted store keeps the ranges of a set
pub in_use_in : (store : List ℕ) (day : Option ℕ) → store_refusal store ≡ 0 → NationalIn (figures_in_use store day)
unfolding figures_in_use set_in_use
in_use_in store None h = recommended_in
in_use_in store (Some day) h = begun_in (set_at store) day (set_count store) (store_kept store h).sound

-- figures that no rule refuses, with their store: "a store that 18 doesn't refuse and a site that 19 doesn't" (document 02, A8)
pub record Accepted (store : List ℕ) (s : Site) (r : Roof) : Type 0 where
  pub accepted_store : store_refusal store ≡ 0
  pub site : site_refusal s ≡ 0
  pub day : day_refusal store s.day ≡ 0
  pub roof : roof_refusal r ≡ 0

pub accepted : (store : List ℕ) (site : Site) (roof : Roof) → figures_refusal store site roof ≡ 0 → Accepted store site roof
accepted store site roof h =
    let p = none_broken _ _ h in
    let q = none_broken _ _ p.1 in
    let r = none_broken _ _ q.0 in
    record { accepted_store = p.0; site = r.0; day = r.1; roof = q.1 }
