-- Texts one after the other, and how long they are.
use Prim.Native.Nat.{ℕ, zero, suc, max, ◌+◌, ◌-◌, ◌*◌, ◌/◌, ◌%◌, ◌^◌, ◌≤◌, ◌<◌}
use mathlib.Core.Path.{◌≡◌, ◌∙◌, ap, sym, refl, subst}
use mathlib.Core.List.{List, [], ◌∷◌, ◌++◌, append_assoc, append-nil}
use mathlib.Core.Bool.{Bool, true, false, cond}
use native.Mathlib.Nat.{pow-suc}
use native.Mathlib.Numerals.{add-one}
use native.Mathlib.Omega.{arith}
use borrow.Author.Tests.{lt-ltb, le-ltb}
use lib.Dec.{ltb}
use lib.ListN.{length, get_or, set, take, drop, length-append, take-append-drop}
use lib.Seq.{sets, length-sets, sets-eq, take-suc, take-length}
use borrow.Rule.Slice.PartMut.{put_mid}
use Rattle.std.proofs.lemmas.Slice.{put_mid-paste}
use Rattle.std.proofs.lemmas.List.Edits.{paste_all}
use Rattle.std.specs.Fmt as std
use Rattle.std.proofs.lemmas.Fmt.{decimal_by_steps}
use Rattle.text.specs.Text.{decimal_in, decimal, digit, pair_of, four_of, field, fields, row}
use Rattle.text.specs.Written.{Wrote}
use Rattle.text.specs.declared.writer.Writer.{Writer}

-- one text behind the other is their append
pub sets_append : (b : List ℕ) (at : ℕ) (m n : List ℕ) → sets (sets b at m) (at + length m) n ≡ sets b at (m ++ n)
sets_append b at [] n = ap (λ (k : ℕ). sets b k n) (omega arith)
sets_append b at (x ∷ m) n =
    let e : at + suc (length m) ≡ suc at + length m = omega arith in
    ap (λ (k : ℕ). sets (sets (set b at x) (suc at) m) k n) e ∙ sets_append (set b at x) (suc at) m n

pub then : {a b c : Writer} {m n : List ℕ} → Wrote a m b → Wrote b n c → Wrote a (m ++ n) c
then {a} {b} {c} {m} {n} g h =
    record {
      bytes = h.bytes ∙ (ap (λ (l : List ℕ). sets l b.at n) g.bytes ∙ (ap (λ (k : ℕ). sets (sets a.bytes.now a.at m) k n) g.end ∙ sets_append a.bytes.now a.at m n));
      end = simp length-append (omega (arith, g.end, h.end));
      same = h.same ∙ g.same;
    }

-- no text
pub none : (a : Writer) → Wrote a [] a
none a = record { bytes = refl; end = omega arith; same = refl }

-- the same text by another name
pub wrote_as : {a b : Writer} {m n : List ℕ} → Wrote a m b → m ≡ n → Wrote a n b
wrote_as {a} {b} {m} {n} w e = subst (λ (l : List ℕ). Wrote a l b) e w

-- the lent bytes keep their number; with room for the text they are the old front, the text and the old rest
pub room : {a b : Writer} {text : List ℕ} → Wrote a text b → length b.bytes.now ≡ length a.bytes.now
room {a} {b} {text} w = ap length w.bytes ∙ length-sets a.bytes.now a.at text

pub in_place :
    {a b : Writer} {text : List ℕ} → Wrote a text b → a.at + length text ≤ length a.bytes.now
    → b.bytes.now ≡ take a.at a.bytes.now ++ text ++ drop b.at a.bytes.now
in_place {a} {b} {text} w h =
    w.bytes ∙ (sets-eq text a.bytes.now a.at h ∙ ap (λ (n : ℕ). take a.at a.bytes.now ++ text ++ drop n a.bytes.now) (sym w.end))

-- a text at the front of the bytes stands there, with their old contents behind it
pub at_front :
    {a b : Writer} (text old : List ℕ) → Wrote a text b → a.bytes.now ≡ old → a.at ≡ 0 → length text ≤ length old
    → (b.at ≡ length text) × (b.bytes.now ≡ text ++ drop b.at old)
at_front text old w f z h = (omega (arith, w.end, z), rw (f, z) at (in_place w (rw (f, z) (omega arith))))

-- the number of digits does not matter where it is enough
pub fuel : (f n : ℕ) → n < 10 ^ suc f → decimal_in (suc f) n ≡ decimal_in f n
fuel zero n h =
    let e : n % 10 ≡ n = omega arith in
    simp (lt-ltb n 10 (omega arith), e)
fuel (suc f) n h =
    let p : 10 ^ suc (suc f) ≡ 10 ^ suc f * 10 = pow-suc 10 (suc f) in
    ap (λ (l : List ℕ). cond (ltb n 10) ((48 + n) ∷ []) (l ++ ((48 + n % 10) ∷ []))) (fuel f (n / 10) (omega arith))

short_by :
    (t : Bool) (f n : ℕ) → length (decimal_in f (n / 10)) ≤ suc f
    → length (cond t ((48 + n) ∷ []) (decimal_in f (n / 10) ++ ((48 + n % 10) ∷ []))) ≤ suc (suc f)
short_by true f n h = omega arith
short_by false f n h = simp length-append (omega arith)

short_in : (f n : ℕ) → length (decimal_in f n) ≤ suc f
short_in zero n = omega arith
short_in (suc f) n = short_by (ltb n 10) f n (short_in f (n / 10))

pub short : (n : ℕ) → length (decimal n) ≤ 10
unfolding decimal
short n = short_in 9 n

pub one_digit : (n : ℕ) → n < 10 → decimal n ≡ (48 + n) ∷ []
unfolding decimal
one_digit n h = simp (lt-ltb n 10 h)

step : (f n : ℕ) → 10 ≤ n → n < 10 ^ suc (suc f) → decimal_in (suc f) n ≡ decimal_in (suc f) (n / 10) ++ ((48 + n % 10) ∷ [])
step f n h s =
    let p : 10 ^ suc (suc f) ≡ 10 ^ suc f * 10 = pow-suc 10 (suc f) in
    let e : decimal_in (suc f) (n / 10) ≡ decimal_in f (n / 10) = fuel f (n / 10) (omega arith) in
    ap (λ (t : Bool). cond t ((48 + n) ∷ []) (decimal_in f (n / 10) ++ ((48 + n % 10) ∷ []))) (le-ltb n 10 h)
    ∙ ap (λ (l : List ℕ). l ++ ((48 + n % 10) ∷ [])) (sym e)

pub more_digits : (n : ℕ) → 10 ≤ n → n < 2 ^ 32 → decimal n ≡ decimal (n / 10) ++ ((48 + n % 10) ∷ [])
unfolding decimal
more_digits n h s = step 8 n h (omega arith)

-- it is the text that std writes
pub as_std : (n : ℕ) → n < 2 ^ 32 → decimal n ≡ std.decimal n
as_std n h =
    decimal_by_steps
    (λ m ds. m < 2 ^ 32 → decimal m ≡ ds)
    (λ m g f. one_digit m g)
    (λ m ds g before f. more_digits m g f ∙ ap (λ (l : List ℕ). l ++ ((48 + m % 10) ∷ [])) (before (omega arith)))
    n (omega arith) h

-- two digits and four behind the others
pair_behind : (n : ℕ) → 100 ≤ n → n < 2 ^ 32 → decimal n ≡ decimal (n / 100) ++ pair_of n
pair_behind n h s =
    let e : n / 10 / 10 ≡ n / 100 = omega arith in
    more_digits n (omega arith) s
    ∙ (ap (λ (l : List ℕ). l ++ (digit n ∷ [])) (more_digits (n / 10) (omega arith) (omega arith))
    ∙ (append_assoc (decimal (n / 10 / 10)) (digit (n / 10) ∷ []) (digit n ∷ []) ∙ ap (λ (k : ℕ). decimal k ++ pair_of n) e))

pub four_behind : (n : ℕ) → 10000 ≤ n → n < 2 ^ 32 → decimal n ≡ decimal (n / 10000) ++ four_of n
four_behind n h s =
    let e : n / 100 / 100 ≡ n / 10000 = omega arith in
    pair_behind n (omega arith) s
    ∙ (ap (λ (l : List ℕ). l ++ pair_of n) (pair_behind (n / 100) (omega arith) (omega arith))
    ∙ (append_assoc (decimal (n / 100 / 100)) (pair_of (n / 100)) (pair_of n) ∙ ap (λ (k : ℕ). decimal k ++ four_of n) e))

-- how many digits: one more than the last power of ten that is reached
ten_above : (k : ℕ) → 0 < 10 ^ k
ten_above zero = omega arith
ten_above (suc k) = let p : 10 ^ suc k ≡ 10 ^ k * 10 = pow-suc 10 k in let h = ten_above k in omega arith

pub counted : (k n : ℕ) → 10 ^ k ≤ n → n < 10 * 10 ^ k → n < 2 ^ 32 → length (decimal n) ≡ k + 1
counted zero n h g s = ap length (one_digit n (omega arith))
counted (suc k) n h g s =
    let p : 10 ^ suc k ≡ 10 ^ k * 10 = pow-suc 10 k in
    let some : 0 < 10 ^ k = ten_above k in
    ap length (more_digits n (omega arith) s)
    ∙ (length-append (decimal (n / 10)) ((48 + n % 10) ∷ []) ∙ omega (arith, counted k (n / 10) (omega arith) (omega arith) (omega arith)))

-- a number and 1 in place of 0, which has as many digits
pub counted_above : (k m n : ℕ) → m ≡ max n 1 → 10 ^ k ≤ m → m < 10 * 10 ^ k → n < 2 ^ 32 → k + 1 ≡ length (decimal n)
counted_above k m zero e h g s = sym (counted k 1 (omega arith) (omega arith) (omega arith)) ∙ (ap length (one_digit 1 (omega arith)) ∙ sym (ap length (one_digit 0 (omega arith))))
counted_above k m (suc n) e h g s = sym (counted k (suc n) (omega arith) (omega arith) s)

-- a text that is copied into a part of the bytes, and digits that end at a place
pub copied : (b new text : List ℕ) (at k : ℕ) → new ≡ text → k ≡ length text → at + length text ≤ length b → put_mid at k b new ≡ sets b at text
copied b new text at k e l h =
    let behind = drop (at + length text) b in
    put_mid-paste at k b new text (length text) e (sym l) refl ∙ (paste_all b at text (length text) refl ∙ (sym (append_assoc (take at b) text behind) ∙ sym (sets-eq text b at h)))

pub ended :
    (b c text : List ℕ) (at end r : ℕ) → r + length text ≡ end → end ≡ at + length text → end ≤ length b
    → drop r c ≡ text ++ drop end b → take r c ≡ take r b → c ≡ sets b at text
ended b c text at end r e f h behind before =
    let p : r ≡ at = omega arith in
    sym (take-append-drop r c)
    ∙ (ap (λ (l : List ℕ). l ++ drop r c) before
    ∙ (ap (λ (l : List ℕ). take r b ++ l) behind
    ∙ (ap (λ (k : ℕ). take k b ++ (text ++ drop end b)) p
    ∙ (ap (λ (k : ℕ). take at b ++ (text ++ drop k b)) f
    ∙ (sym (append_assoc (take at b) text (drop (at + length text) b)) ∙ sym (sets-eq text b at (omega arith)))))))

-- one more field
fields_append : (ns : List ℕ) (n : ℕ) → fields (ns ++ (n ∷ [])) ≡ fields ns ++ field n 32
fields_append [] n = append-nil (field n 32)
fields_append (m ∷ ns) n = ap (λ (l : List ℕ). field m 32 ++ l) (fields_append ns n) ∙ sym (append_assoc (field m 32) (fields ns) (field n 32))

pub fields_more : (ns : List ℕ) (i : ℕ) → i < length ns → fields (take i ns) ++ field (get_or ns i 0) 32 ≡ fields (take (i + 1) ns)
fields_more ns i h =
    sym (ap (λ (k : ℕ). fields (take k ns)) (add-one i) ∙ (ap fields (take-suc ns i 0 h) ∙ fields_append (take i ns) (get_or ns i 0)))

row_append : (ns : List ℕ) (n : ℕ) → row (ns ++ (n ∷ [])) ≡ fields ns ++ field n 10
row_append [] n = refl
row_append (m ∷ []) n = ap (λ (l : List ℕ). l ++ field n 10) (sym (append-nil (field m 32)))
row_append (m ∷ k ∷ ns) n = ap (λ (l : List ℕ). field m 32 ++ l) (row_append (k ∷ ns) n) ∙ sym (append_assoc (field m 32) (fields (k ∷ ns)) (field n 10))

pub row_ends :
    (ns : List ℕ) (count i : ℕ) → length ns ≡ count → 0 < count → i ≡ length (take (count - 1) ns)
    → fields (take i (take (count - 1) ns)) ++ field (get_or ns (count - 1) 0) 10 ≡ row ns
row_ends ns count i h g e =
    let last = count - 1 in
    let f : suc last ≡ length ns = omega arith in
    let all : take (suc last) ns ≡ ns = ap (λ (k : ℕ). take k ns) f ∙ take-length ns in
    ap (λ (l : List ℕ). fields l ++ field (get_or ns last 0) 10) (ap (λ (k : ℕ). take k (take last ns)) e ∙ take-length (take last ns))
    ∙ sym (ap row (sym all ∙ take-suc ns last 0 (omega arith)) ∙ row_append (take last ns) (get_or ns last 0))
