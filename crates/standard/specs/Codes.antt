-- Which arrangements exist: one table of kind, situation and code, by the documents' numbers. The codes of exceptional drifts ask for
-- the number of a roof's drifts too.
use Rattle.std.specs.Prelude.{ℕ, ◌+◌, ◌-◌, Bool, cond, not, ◌&&◌, ◌||◌, eqb}
use Rattle.figures.specs.Ranges.{within}

-- "Kind 2 has code 1; kind 3 has 1, 2, 3; kinds 4, 5, 6 have 1, 2; kind 7 has 2"; kind 9 has those of kind 4;
-- kind 10, document 02, A7: "The codes are those of kind 6"
abbrev pub persistent_by : ℕ → ℕ → Bool
persistent_by kind code =
    (eqb kind 2 && eqb code 1)
    || (eqb kind 3 && within 1 3 code)
    || ((within 4 6 kind || within 9 10 kind) && within 1 2 code)
    || (eqb kind 7 && eqb code 2)

-- the kinds with exceptional drifts by Annex B
abbrev pub drift_kind : ℕ → Bool
drift_kind kind = eqb kind 9 || within 11 12 kind

-- "Situation 2 is case B2 and 3 is case B3": they have their drifts there, kind 9 in place of its code 2
abbrev pub drifts_in : ℕ → ℕ → Bool
drifts_in kind situation = drift_kind kind && within 2 3 situation

-- "Kind 9 has code 1 always, code 2 in situations 0 and 1"; other kinds have theirs in every situation
abbrev pub persistent_in : ℕ → ℕ → ℕ → Bool
persistent_in kind situation code = persistent_by kind code && not (drifts_in kind situation && eqb code 2)

-- "Codes 11, 12, 13 are the same shapes times Cesl (5.2)": the persistent code of the same shape
abbrev pub accidental : ℕ → Bool
accidental code = within 11 13 code

abbrev pub base_code : ℕ → ℕ
base_code code = cond (accidental code) (code - 10) code

-- "code 11 in 1 and 3, code 12 in 1" of kind 9; "Other kinds get code 11 in 3 where they have it in 1, 12 and 13 in 1 alone, and
-- none of the three in 2"; kind 7 has "never an accidental code"
abbrev pub accidental_in : ℕ → ℕ → ℕ → Bool
accidental_in kind situation code =
    (eqb situation 1 || (eqb situation 3 && eqb code 11)) && not (eqb kind 7) && persistent_by kind (code - 10)

-- "For valley j, counted from 1 at the left, code 30 + j"; kinds 11 and 12 have "One code, 31": whether a code names one of so many
-- drifts, and which, from 0
abbrev pub names_drift : ℕ → ℕ → Bool
names_drift drifts code = within 31 (30 + drifts) code

abbrev pub drift_named : ℕ → ℕ
drift_named code = code - 31

-- "and these drifts in 2 and 3"; "One code, 31, in situations 2 and 3"
unfoldable pub exists_in : ℕ → ℕ → ℕ → ℕ → Bool
exists_in kind situation drifts code =
    cond (accidental code) (accidental_in kind situation code)
    (persistent_in kind situation code || (drifts_in kind situation && names_drift drifts code))

-- no kind has a lower code: kinds 11 and 12 have "One code, 31"
abbrev pub first_code : ℕ → ℕ
first_code kind = cond (within 11 12 kind) 31 1

-- the highest code that exists, of all roofs and of a kind with so many drifts in a situation
abbrev pub highest_code : ℕ
highest_code = 45

abbrev pub last_code : ℕ → ℕ → ℕ → ℕ
last_code kind situation drifts = cond (drifts_in kind situation) (30 + drifts) 13

-- "Local forces, kinds 2 and 3"
abbrev pub forces_in : ℕ → Bool
forces_in kind = within 2 3 kind

-- "each slope of kinds 3 and 4 has its own" segment, and kind 9's where no valley is named: two of them may have one load
abbrev pub several_slopes : ℕ → ℕ → ℕ → Bool
several_slopes kind drifts code = within 3 4 kind || (eqb kind 9 && not (names_drift drifts code))
