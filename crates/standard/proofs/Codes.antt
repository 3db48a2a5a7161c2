-- Which codes exist: none is 0 or above the last; where a roof has exceptional drifts, and where it has none.
use Prim.Native.Nat.{ℕ, ◌+◌, ◌-◌, ◌≤◌}
use mathlib.Core.Path.{◌≡◌, refl}
use mathlib.Core.Bool.{Bool, true, false, cond, not, ◌&&◌, ◌||◌}
use borrow.Author.Tests.{eqb-true, eq-eqb}
use lib.Dec.{eqb}
use native.Mathlib.Omega.{arith}
use Rattle.std.proofs.lemmas.Bool.{false≢true}
use Rattle.figures.specs.Bounds.{Within}
use Rattle.figures.specs.Ranges.{within}
use Rattle.figures.proofs.Accepted.{range}
use Rattle.figures.proofs.Laws.{both}
use Rattle.figures.proofs.Tests.{clash, or_right}
use Rattle.standard.specs.Codes.{persistent_by, drift_kind, drifts_in, persistent_in, accidental, base_code, accidental_in, names_drift, exists_in, highest_code, first_code, last_code}

either : {P : Type 0} (a b : Bool) → (a || b) ≡ true → (a ≡ true → P) → (b ≡ true → P) → P
either true b h f g = f refl
either false b h f g = g h

or_left : (a b : Bool) → a ≡ true → (a || b) ≡ true
or_left true b h = refl
or_left false b h = absurd (false≢true h)

not_both : (a b : Bool) → not (a && b) ≡ true → a ≡ true → b ≡ true → ⊥
not_both true true h p q = false≢true h
not_both true false h p q = false≢true q
not_both false b h p q = false≢true p

one : (code low high n : ℕ) → low ≤ n → n ≤ high → eqb code n ≡ true → Within low high code
one code low high n p q h = let e = eqb-true code n h in record { low = omega arith; high = omega arith }

-- code 3 is a pitched roof's, and every other kind has 1 and 2 at most
pub record Persistent (kind code : ℕ) : Type 0 where
  pub codes : Within 1 3 code
  pub third : code ≡ 3 → kind ≡ 3

pub persistent_codes : (kind code : ℕ) → persistent_by kind code ≡ true → Persistent kind code
persistent_codes kind code h =
    either _ _ h
    (λ a.
    either _ _ a
    (λ b.
    either _ _ b
    (λ c. low 1 (omega arith) (omega arith) (both (eqb kind 2) (eqb code 1) c).1)
    (λ c. let p = both (eqb kind 3) (within 1 3 code) c in record { codes = range 1 3 code p.1; third = λ e. eqb-true kind 3 p.0 }))
    (λ b. let r = range 1 2 code (both (within 4 6 kind || within 9 10 kind) (within 1 2 code) b).1 in below r.low r.high))
    (λ a. low 2 (omega arith) (omega arith) (both (eqb kind 7) (eqb code 2) a).1)
  where
    below : 1 ≤ code → code ≤ 2 → Persistent kind code
    below p q = record { codes = record { low = p; high = omega arith }; third = λ e. absurd (omega arith) }

    low : (n : ℕ) → 1 ≤ n → n ≤ 2 → eqb code n ≡ true → Persistent kind code
    low n p q e = let w = one code 1 2 n p q e in below w.low w.high

-- kinds 11 and 12 have no persistent code
persistent_kind : (kind code : ℕ) → persistent_by kind code ≡ true → kind ≤ 10
persistent_kind kind code h =
    either _ _ h
    (λ a.
    either _ _ a
    (λ b.
    either _ _ b
    (λ c. let e = eqb-true kind 2 (both (eqb kind 2) (eqb code 1) c).0 in omega (arith, e))
    (λ c. let e = eqb-true kind 3 (both (eqb kind 3) (within 1 3 code) c).0 in omega (arith, e)))
    (λ b.
    either (within 4 6 kind) (within 9 10 kind) (both (within 4 6 kind || within 9 10 kind) (within 1 2 code) b).0
    (λ c. omega (arith, (range 4 6 kind c).high))
    (λ c. (range 9 10 kind c).high)))
    (λ a. omega (arith, eqb-true kind 7 (both (eqb kind 7) (eqb code 2) a).0))

-- what an accidental code tells
record Accidental (kind situation code : ℕ) : Type 0 where
  allowed : (eqb situation 1 || (eqb situation 3 && eqb code 11)) ≡ true
  shape : persistent_by kind (code - 10) ≡ true

accidental_parts : (kind situation code : ℕ) → accidental_in kind situation code ≡ true → Accidental kind situation code
accidental_parts kind situation code k =
    let p = both ((eqb situation 1 || (eqb situation 3 && eqb code 11)) && not (eqb kind 7)) (persistent_by kind (code - 10)) k in
    record { allowed = (both (eqb situation 1 || (eqb situation 3 && eqb code 11)) (not (eqb kind 7)) p.0).0; shape = p.1 }

module _ (kind situation drifts code : ℕ) (h : exists_in kind situation drifts code ≡ true) where
  -- where a roof has no drifts, a code that exists has the shape of a persistent one
  pub base_persistent : drifts_in kind situation ≡ false → persistent_by kind (base_code code) ≡ true
  unfolding exists_in
  base_persistent d = go (accidental code) h
    where
      go :
          (b : Bool)
          → cond b (accidental_in kind situation code) (persistent_in kind situation code || (drifts_in kind situation && names_drift drifts code)) ≡ true
          → persistent_by kind (cond b (code - 10) code) ≡ true
      go true k = (accidental_parts kind situation code k).shape
      go false k =
          either (persistent_in kind situation code) (drifts_in kind situation && names_drift drifts code) k
          (λ p. (both (persistent_by kind code) (not (drifts_in kind situation && eqb code 2)) p).0)
          (λ p. clash (both (drifts_in kind situation) (names_drift drifts code) p).0 d)

  -- where it has drifts, a code that exists is 1, 11 or that of a drift
  pub with_drifts : drifts_in kind situation ≡ true → (eqb (base_code code) 1 || names_drift drifts code) ≡ true
  unfolding exists_in
  with_drifts d = go (accidental code) h
    where
      drifting : (drift_kind kind ≡ true) × (within 2 3 situation ≡ true)
      drifting = both (drift_kind kind) (within 2 3 situation) d

      high_kind : 9 ≤ kind
      high_kind =
          either (eqb kind 9) (within 11 12 kind) drifting.0
          (λ a. omega (arith, eqb-true kind 9 a))
          (λ a. omega (arith, (range 11 12 kind a).low))

      go :
          (b : Bool)
          → cond b (accidental_in kind situation code) (persistent_in kind situation code || (drifts_in kind situation && names_drift drifts code)) ≡ true
          → (eqb (cond b (code - 10) code) 1 || names_drift drifts code) ≡ true
      go true k =
          either (eqb situation 1) (eqb situation 3 && eqb code 11) (accidental_parts kind situation code k).allowed
          (λ a. absurd (omega (arith, (range 2 3 situation drifting.1).low, eqb-true situation 1 a)))
          (λ a.
          let eleven = eqb-true code 11 (both (eqb situation 3) (eqb code 11) a).1 in
          or_left (eqb (code - 10) 1) (names_drift drifts code) (eq-eqb (code - 10) 1 (omega (arith, eleven))))
      go false k =
          either (persistent_in kind situation code) (drifts_in kind situation && names_drift drifts code) k
          (λ p.
          let q = both (persistent_by kind code) (not (drifts_in kind situation && eqb code 2)) p in
          let w = persistent_codes kind code q.0 in
          let three : code ≡ 3 → ⊥ = λ e. omega (arith, high_kind, w.third e) in
          let two : code ≡ 2 → ⊥ = λ e. not_both (drifts_in kind situation) (eqb code 2) q.1 d (eq-eqb code 2 e) in
          or_left (eqb code 1) (names_drift drifts code) (eq-eqb code 1 (omega (arith, w.codes.low, w.codes.high, two, three))))
          (λ p. or_right (eqb code 1) (names_drift drifts code) (both (drifts_in kind situation) (names_drift drifts code) p).1)

  -- "code 30 + j" of a drift is a roof's highest
  pub codes_in : Within 1 (last_code kind situation drifts) code
  codes_in = go (drifts_in kind situation) refl
    where
      by_base : (c : Bool) → accidental code ≡ c → Within 1 3 (cond c (code - 10) code) → Within 1 13 code
      by_base true e w = let r = range 11 13 code e in record { low = omega (arith, r.low); high = r.high }
      by_base false e w = record { low = w.low; high = omega (arith, w.high) }

      go : (b : Bool) → drifts_in kind situation ≡ b → Within 1 (cond b (30 + drifts) 13) code
      go false d = by_base (accidental code) refl (persistent_codes kind (base_code code) (base_persistent d)).codes
      go true d =
          either (eqb (base_code code) 1) (names_drift drifts code) (with_drifts d)
          (λ a.
          let w = by_base (accidental code) refl (one (base_code code) 1 3 1 (omega arith) (omega arith) a) in
          record { low = w.low; high = omega (arith, w.high) })
          (λ a. let r = range 31 (30 + drifts) code a in record { low = omega (arith, r.low); high = r.high })

  -- no code that exists is below the first
  pub past_first : first_code kind ≤ code
  unfolding exists_in
  past_first = go (within 11 12 kind) refl
    where
      high : within 11 12 kind ≡ true → kind ≤ 10 → ⊥
      high e p = omega (arith, (range 11 12 kind e).low)

      above :
          (b : Bool) → within 11 12 kind ≡ true
          → cond b (accidental_in kind situation code) (persistent_in kind situation code || (drifts_in kind situation && names_drift drifts code)) ≡ true
          → 31 ≤ code
      above true e k = absurd (high e (persistent_kind kind (code - 10) (accidental_parts kind situation code k).shape))
      above false e k =
          either (persistent_in kind situation code) (drifts_in kind situation && names_drift drifts code) k
          (λ p. absurd (high e (persistent_kind kind code (both (persistent_by kind code) (not (drifts_in kind situation && eqb code 2)) p).0)))
          (λ p. (range 31 (30 + drifts) code (both (drifts_in kind situation) (names_drift drifts code) p).1).low)

      go : (b : Bool) → within 11 12 kind ≡ b → cond b 31 1 ≤ code
      go true e = above (accidental code) e h
      go false e = codes_in.low

pub first_in : (kind : ℕ) → Within 1 31 (first_code kind)
first_in kind = go (within 11 12 kind)
  where
    go : (b : Bool) → Within 1 31 (cond b 31 1)
    go true = record { low = omega arith; high = omega arith }
    go false = record { low = omega arith; high = omega arith }

-- the code of a drift is no accidental one
pub named_base : (drifts code : ℕ) → names_drift drifts code ≡ true → base_code code ≡ code
named_base drifts code n = go (accidental code) refl
  where
    go : (b : Bool) → accidental code ≡ b → cond b (code - 10) code ≡ code
    go true e = absurd (omega (arith, (range 11 13 code e).high, (range 31 (30 + drifts) code n).low))
    go false e = refl

-- no roof has a code above 45
pub last_highest : (kind situation drifts : ℕ) → drifts ≤ 15 → last_code kind situation drifts ≤ highest_code
last_highest kind situation drifts h = go (drifts_in kind situation)
  where
    go : (b : Bool) → cond b (30 + drifts) 13 ≤ highest_code
    go true = omega arith
    go false = omega arith
