-- The code that a roof has from its other end: it exists where the code does, is accidental where it is, and twice is the code.
use Prim.Native.Nat.{ℕ, suc, ◌+◌, ◌-◌, ◌≤◌}
use mathlib.Core.Path.{◌≡◌, refl, sym, ◌∙◌}
use mathlib.Core.List.{[], ◌∷◌, ◌++◌, map}
use mathlib.Core.Bool.{Bool, true, false, cond, ◌&&◌, and-true}
use borrow.Author.Tests.{eqb-true, eqb-false, ne_eqb, le-leb}
use lib.Dec.{eqb}
use native.Mathlib.Omega.{arith}
use Rattle.std.proofs.lemmas.Bool.{false_from_ne_true}
use Rattle.figures.proofs.Laws.{both, within_in}
use Rattle.standard.specs.Codes.{persistent_by, drift_kind, drifts_in, accidental, base_code, names_drift, drift_named, exists_in}
use Rattle.standard.proofs.Codes.{persistent_codes, base_persistent}
use Rattle.turned_roofs.specs.Turned.{exchanged, turned_code, mirrored_code}

-- codes 1, 2, 3, 11, 12 and 13 of kind 3, and of kind 9 with 4 spans those of its three valleys
pub codes_worked :
    map (mirrored_code 3 0) (1 ∷ 2 ∷ 3 ∷ 11 ∷ 12 ∷ 13 ∷ []) ++ map (mirrored_code 9 3) (1 ∷ 2 ∷ 11 ∷ 31 ∷ 32 ∷ 33 ∷ [])
    ≡ 1 ∷ 3 ∷ 2 ∷ 11 ∷ 13 ∷ 12 ∷ 1 ∷ 2 ∷ 11 ∷ 33 ∷ 32 ∷ 31 ∷ []
unfolding mirrored_code turned_code exchanged
codes_worked = refl

-- what holds of each pair of codes that change places, and of every other code with itself, holds of a code and the exchanged one
exchanged_is :
    (P : ℕ → ℕ → Type 0) → P 2 3 → P 3 2 → P 12 13 → P 13 12
    → ((c : ℕ) → (c ≡ 2 → ⊥) → (c ≡ 3 → ⊥) → (c ≡ 12 → ⊥) → (c ≡ 13 → ⊥) → P c c) → (code : ℕ) → P code (exchanged code)
unfolding exchanged
exchanged_is P a b c d r code = go (eqb code 2) (eqb code 3) (eqb code 12) (eqb code 13) refl refl refl refl
  where
    go : (p q s t : Bool) → eqb code 2 ≡ p → eqb code 3 ≡ q → eqb code 12 ≡ s → eqb code 13 ≡ t → P code (exchanged code)
    go true q s t e f g h = rw (eqb-true code 2 e) a
    go false true s t e f g h = rw (eqb-true code 3 f) b
    go false false true t e f g h = rw (eqb-true code 12 g) c
    go false false false true e f g h = rw (eqb-true code 13 h) d
    go false false false false e f g h =
        let z : exchanged code ≡ code = simp (e, f, g, h) in
        rw z (r code (eqb-false code 2 e) (eqb-false code 3 f) (eqb-false code 12 g) (eqb-false code 13 h))

-- what a code and the exchanged one have in common on kind 3
pub record Exchanged (c d : ℕ) : Type 0 where
  pub two : eqb (base_code c) 2 ≡ eqb (base_code d) 3
  pub three : eqb (base_code c) 3 ≡ eqb (base_code d) 2
  pub accident : accidental c ≡ accidental d
  pub there : (situation drifts : ℕ) → exists_in 3 situation drifts d ≡ exists_in 3 situation drifts c
  pub back : exchanged d ≡ c

neither_base : (c k : ℕ) → (c ≡ k → ⊥) → (c ≡ k + 10 → ⊥) → eqb (base_code c) k ≡ false
neither_base c k p q = ne_eqb (base_code c) k (go (accidental c) refl)
  where
    go : (b : Bool) → accidental c ≡ b → cond b (c - 10) c ≡ k → ⊥
    go true h e = q (omega (arith, within_in 11 13 c h))
    go false h e = p e

pub exchanged_keeps : (code : ℕ) → Exchanged code (exchanged code)
unfolding exchanged exists_in
exchanged_keeps code =
    exchanged_is Exchanged
    (record { two = refl; three = refl; accident = refl; there = λ s d. refl; back = refl })
    (record { two = refl; three = refl; accident = refl; there = λ s d. refl; back = refl })
    (record { two = refl; three = refl; accident = refl; there = λ s d. refl; back = refl })
    (record { two = refl; three = refl; accident = refl; there = λ s d. refl; back = refl })
    (λ c a b d e. record {
      two = neither_base c 2 a d ∙ sym (neither_base c 3 b e);
      three = neither_base c 3 b e ∙ sym (neither_base c 2 a d);
      accident = refl;
      there = λ s d. refl;
      back = rw (ne_eqb c 2 a, ne_eqb c 3 b, ne_eqb c 12 d, ne_eqb c 13 e);
    })
    code

-- a code that names a drift, and the one that names it from the other end
module _ (drifts code : ℕ) (n : names_drift drifts code ≡ true) where
  named : (31 ≤ code) × (code ≤ 30 + drifts)
  named = within_in 31 (30 + drifts) code n

  pub named_back : names_drift drifts (61 + drifts - code) ≡ true
  named_back = rw (le-leb 31 (61 + drifts - code) (omega (arith, named)), le-leb (61 + drifts - code) (30 + drifts) (omega (arith, named)))

  pub drifts_add_up : suc (drift_named code + drift_named (61 + drifts - code)) ≡ drifts
  drifts_add_up = omega (arith, named)

  no_accident : accidental code ≡ false
  no_accident = false_from_ne_true (accidental code) (λ a. omega (arith, within_in 11 13 code a, named))

  -- it exists where the roof has its drifts, whichever it names
  named_exists : (kind situation : ℕ) → exists_in kind situation drifts code ≡ drifts_in kind situation
  unfolding exists_in
  named_exists kind situation =
      let p = false_from_ne_true (persistent_by kind code) (λ a. omega (arith, (persistent_codes kind code a).codes.high, named)) in
      rw (no_accident, p, n) (and-true (drifts_in kind situation))

-- what a code has in common with the one that a roof has from its other end
pub record SameCode (kind drifts c d : ℕ) : Type 0 where
  pub accident : accidental c ≡ accidental d
  pub there : (situation : ℕ) → exists_in kind situation drifts d ≡ exists_in kind situation drifts c
  pub back : mirrored_code kind drifts d ≡ c

pub code_mirrored : (kind drifts code : ℕ) → SameCode kind drifts code (mirrored_code kind drifts code)
unfolding mirrored_code turned_code
code_mirrored kind drifts code = go (drift_kind kind && names_drift drifts code) (eqb kind 3) refl refl
  where
    go :
        (b k : Bool) → (drift_kind kind && names_drift drifts code) ≡ b → eqb kind 3 ≡ k
        → SameCode kind drifts code (cond b (61 + drifts - code) (cond k (exchanged code) code))
    go true k e h =
        let p = both (drift_kind kind) (names_drift drifts code) e in
        let d = 61 + drifts - code in
        let m = named_back drifts code p.1 in
        record {
          accident = no_accident drifts code p.1 ∙ sym (no_accident drifts d m);
          there = λ s. named_exists drifts d m kind s ∙ sym (named_exists drifts code p.1 kind s);
          back = rw (p.0, m) (omega (arith, named drifts code p.1));
        }
    go false true e h =
        let x = exchanged_keeps code in
        let three : kind ≡ 3 = eqb-true kind 3 h in
        rw three (record { accident = x.accident; there = λ s. x.there s drifts; back = x.back })
    go false false e h = record { accident = refl; there = λ s. refl; back = rw (e, h) }

-- the drifts that a code names are those that its persistent code names: none, where it is accidental
pub base_names : (drifts code : ℕ) → names_drift drifts (base_code code) ≡ names_drift drifts code
base_names drifts code = go (accidental code) refl
  where
    go : (b : Bool) → accidental code ≡ b → names_drift drifts (cond b (code - 10) code) ≡ names_drift drifts code
    go true e =
        let r = within_in 11 13 code e in
        false_from_ne_true (names_drift drifts (code - 10)) (λ a. omega (arith, within_in 31 (30 + drifts) (code - 10) a, r))
        ∙ sym (false_from_ne_true (names_drift drifts code) (λ a. omega (arith, within_in 31 (30 + drifts) code a, r)))
    go false e = refl

-- a roof without drifts has no code that names one
pub none_named :
    (kind situation drifts code : ℕ) → drift_kind kind ≡ false → exists_in kind situation drifts code ≡ true → names_drift drifts code ≡ false
none_named kind situation drifts code d h =
    let off : drifts_in kind situation ≡ false = rw d in
    let p = persistent_codes kind (base_code code) (base_persistent kind situation drifts code h off) in
    sym (base_names drifts code)
    ∙ false_from_ne_true (names_drift drifts (base_code code)) (λ a. omega (arith, within_in 31 (30 + drifts) (base_code code) a, p.codes.high))
