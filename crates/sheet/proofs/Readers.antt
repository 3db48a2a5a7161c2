-- A sheet read under a lower and under a higher ceiling; the desk beside the terminals.
use Prim.Native.Nat.{ℕ}
use mathlib.Core.Bool.{Bool, true, false, cond, ◌&&◌}
use mathlib.Core.List.{List, []}
use mathlib.Core.Path.{◌≡◌, refl, sym, ap, ◌∙◌}
use borrow.Author.Tests.{eq-eqb}
use lib.ListN.{length}
use native.Mathlib.Omega.{arith}
use Rattle.ceilings.proofs.Limits.{Below, below_terminals, lower_fits}
use Rattle.ceilings.specs.Ceilings.{terminals, fits, ceiling_of}
use Rattle.ceilings.specs.declared.Caller.{Caller}
use Rattle.ceilings.specs.declared.Caller.TheVariants.{Terminal, Desk}
use Rattle.ceilings.specs.declared.Ceiling.{Ceiling}
use Rattle.figures.specs.Store.{store_refusal}
use Rattle.pairs.proofs.Kept.{not_refused}
use Rattle.pairs.specs.Pairs.{Answer, accepted, refused, count, pair_number, in_turn, pairs_verdict, and_then, verdict_means}
use Rattle.upper_rules.specs.UpperRules.{uppers_verdict}
use Rattle.std.specs.Prelude.{Result, Ok, Err}
use Rattle.figures.specs.Refusal.{number_of}
use Rattle.figures.proofs.Numbers.{one_number}
use Rattle.pair_words.specs.declared.Pair.{Pair}
use Rattle.pairs.specs.declared.turns.Refused.{Refused}
use Rattle.sheet.proofs.Kept.{store_accepted}
use Rattle.sheet.specs.Readers.{sheet_inside, Read}
use Rattle.sheet.specs.Sheet.{SheetOf, Place, item_number, rules_verdict, store_verdict, sheet_verdict, place_by, place, part_at, located_means}

-- a test in front of an answer, without which the sheet is refused by 1
abbrev one_unless : {A : Type 0} → Bool → Answer A → Answer A
one_unless b v = cond b v (refused 1 0)

two_tests : (b c : Bool) (v : Answer ℕ) → one_unless (b && c) v ≡ one_unless b (one_unless c v)
two_tests true c v = refl
two_tests false c v = refl

then_tested : (b : Bool) (v next : Answer ℕ) → and_then (one_unless b v) next ≡ one_unless b (and_then v next)
then_tested true v next = refl
then_tested false v next = refl

-- what is read under the lower ceiling is what is read under the higher where the sheet is inside the lower; otherwise it is
-- 1, item 0, whatever its pairs and items are
module _ (store : List ℕ) (low high : Ceiling) (h : Below low high) (s : List ℕ) where
  lower_pairs : pairs_verdict low s ≡ one_unless (sheet_inside low s) (pairs_verdict high s)
  unfolding pairs_verdict
  lower_pairs =
      let walk = in_turn (pair_number s) (count s) 0 (count s) in
      ap (λ (b : Bool). one_unless b walk) (lower_fits low high h (length s) (count s))
      ∙ two_tests (sheet_inside low s) (fits high (length s) (count s)) walk

  lower_rules : rules_verdict store low s ≡ one_unless (sheet_inside low s) (rules_verdict store high s)
  unfolding rules_verdict
  lower_rules =
      let walk = and_then (in_turn (item_number store s) (count s) 0 (count s)) (uppers_verdict s (count s)) in
      ap (λ (v : Answer ℕ). and_then v walk) lower_pairs ∙ then_tested (sheet_inside low s) (pairs_verdict high s) walk

  -- with an accepted store; a refused one is told first, whoever reads
  pub lower_verdict : store_refusal store ≡ 0 → sheet_verdict store low s ≡ one_unless (sheet_inside low s) (sheet_verdict store high s)
  lower_verdict k =
      sym (store_accepted store low s k) ∙ (lower_rules ∙ ap (one_unless (sheet_inside low s)) (store_accepted store high s k))

  -- so what the lower ceiling lets through is accepted under the higher
  pub higher_accepts : (n : ℕ) → store_refusal store ≡ 0 → sheet_verdict store low s ≡ accepted n → sheet_verdict store high s ≡ accepted n
  higher_accepts n k e = (not_refused (sheet_inside low s) (sheet_verdict store high s) 1 0 n (sym (lower_verdict k) ∙ e)).1

  same_read : (v : Answer ℕ) → sheet_verdict store low s ≡ v → Read store s low v (λ i. place_by v s i) (λ i. part_at (place_by v s i) s)
  unfolding place
  same_read v e =
      record {
        verdict = e;
        places = λ i. ap (λ (a : Answer ℕ). place_by a s i) e;
        items = λ i. ap (λ (a : Answer ℕ). part_at (place_by a s i) s) e;
      }

  -- the verdict inside the lower ceiling, whatever the store is
  pub inside_verdict : sheet_inside low s ≡ true → sheet_verdict store low s ≡ sheet_verdict store high s
  unfolding sheet_verdict
  inside_verdict e = ap (and_then (store_verdict store)) (rw e at lower_rules)

-- "A sheet inside the desk's ceiling gets the same answer from both", with any store
pub same_inside :
    (store s : List ℕ) → sheet_inside (ceiling_of Desk) s ≡ true
    → Read store s (ceiling_of Desk) (sheet_verdict store (ceiling_of Terminal) s) (place store (ceiling_of Terminal) s)
    (λ i. part_at (place store (ceiling_of Terminal) s i) s)
unfolding place
same_inside store s e =
    same_read store _ (ceiling_of Terminal) (below_terminals Desk) s (sheet_verdict store (ceiling_of Terminal) s)
    (inside_verdict store _ _ (below_terminals Desk) s e)

-- "1 when the sheet passes the ceiling of the caller that reads it, in its old place", behind 18: item 0, and no item is handed back
pub one_outside :
    (store : List ℕ) (caller : Caller) (s : List ℕ) → store_refusal store ≡ 0 → sheet_inside (ceiling_of caller) s ≡ false
    → Read store s (ceiling_of caller) (refused 1 0) (λ i. refused 1 0) (λ i. [])
unfolding place_by
one_outside store caller s k e =
    same_read store _ (ceiling_of Terminal) (below_terminals caller) s (refused 1 0) (rw e at (lower_verdict store _ _ (below_terminals caller) s k))

-- an answer of `verdict`, and one of `locate`, by what it says
same_refused : (a b : Refused) → number_of a.refusal ≡ number_of b.refusal → a.item ≡ b.item → a ≡ b
same_refused a b e f =
    let g : a.refusal ≡ b.refusal = one_number a.refusal b.refusal e in
    let h : ◌≡◌ {A = Refused} (record { refusal = a.refusal; item = a.item }) b = rw (g, f) in
    h

one_verdict : (a b : Result ℕ Refused) → verdict_means a ≡ verdict_means b → a ≡ b
one_verdict (Ok m) (Ok n) e = let z : m ≡ n = cc in rw z
one_verdict (Ok m) (Err b) e = let z : ◌≡◌ {A = ℕ} 0 1 = cc in absurd (omega arith)
one_verdict (Err a) (Ok n) e = let z : ◌≡◌ {A = ℕ} 0 1 = cc in absurd (omega arith)
one_verdict (Err a) (Err b) e =
    let z : number_of a.refusal ≡ number_of b.refusal = cc in
    let w : a.item ≡ b.item = cc in
    ap Err (same_refused a b z w)

one_place : (a b : Result Pair Refused) → located_means a ≡ located_means b → a ≡ b
one_place (Ok m) (Ok n) e =
    let p : ◌≡◌ {A = Place} (record { start = m.offset; bytes = m.size }) (record { start = n.offset; bytes = n.size }) = cc in
    let z : m.offset ≡ n.offset = ap (λ (x : Place). x.start) p in
    let w : m.size ≡ n.size = ap (λ (x : Place). x.bytes) p in
    let h : ◌≡◌ {A = Pair} (record { offset = m.offset; size = m.size }) n = rw (z, w) in
    ap Ok h
one_place (Ok m) (Err b) e = let z : ◌≡◌ {A = ℕ} 0 1 = cc in absurd (omega arith)
one_place (Err a) (Ok n) e = let z : ◌≡◌ {A = ℕ} 0 1 = cc in absurd (omega arith)
one_place (Err a) (Err b) e =
    let z : number_of a.refusal ≡ number_of b.refusal = cc in
    let w : a.item ≡ b.item = cc in
    ap Err (same_refused a b z w)

-- the same of the calls' own answers: what the desk gets is what a terminal gets
module _ (store s : List ℕ) (e : sheet_inside (ceiling_of Desk) s ≡ true) where
  pub same_verdicts :
      (d t : Result ℕ Refused) → verdict_means d ≡ sheet_verdict store (ceiling_of Desk) s → verdict_means t ≡ sheet_verdict store (ceiling_of Terminal) s → d ≡ t
  same_verdicts d t f g = one_verdict d t (f ∙ ((same_inside store s e).verdict ∙ sym g))

  pub same_places :
      (i : ℕ) (d t : Result Pair Refused) → located_means d ≡ place store (ceiling_of Desk) s i → located_means t ≡ place store (ceiling_of Terminal) s i → d ≡ t
  same_places i d t f g = one_place d t (f ∙ ((same_inside store s e).places i ∙ sym g))

-- a sheet that a caller's ceiling lets through is accepted
pub caller_accepts : (store : List ℕ) (caller : Caller) (s : List ℕ) (n : ℕ) → store_refusal store ≡ 0 → sheet_verdict store (ceiling_of caller) s ≡ accepted n → SheetOf store s n
caller_accepts store caller s n k e =
    let f : sheet_verdict store terminals s ≡ accepted n = higher_accepts store (ceiling_of caller) terminals (below_terminals caller) s n k e in
    rw f (eq-eqb n n refl)
