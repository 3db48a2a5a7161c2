-- Writes whose last bytes are still to be written over.
use Prim.Native.Nat.{ℕ, zero, suc, ◌+◌, ◌≤◌, ◌<◌, ◌/◌, ◌%◌, ◌^◌}
use mathlib.Core.Path.{◌≡◌, refl, ap, sym, subst, ◌∙◌}
use mathlib.Core.List.{List, [], ◌∷◌, ◌++◌, append_assoc}
use native.Mathlib.Nat.{pow-suc, div-one, div-div-eq-div-mul}
use native.Mathlib.Numerals.{add-one}
use native.Mathlib.Omega.{arith}
use lib.ListN.{length, get_or, set, take, drop, length-append, length-drop, length-set, take-append-drop}
use lib.Seq.{sets, length-sets, set-set, set_comm}
use Rattle.std.specs.Int.{byte_at, bytes_low_first}
use Rattle.text.specs.Text.{decimal, field, row}
use Rattle.text.specs.Written.{Wrote}
use Rattle.text.specs.declared.writer.Writer.{Writer}
use Rattle.text.proofs.Writing.{sets_append, room}
use Rattle.digits.specs.Words.{bytes_of}
use Rattle.digit_rows.specs.Loosely.{Loose}

-- a store in front of a text goes before it
set_sets : (b : List ℕ) (r j x : ℕ) (text : List ℕ) → r < j → set (sets b j text) r x ≡ sets (set b r x) j text
set_sets b r j x [] h = refl
set_sets b r j x (y ∷ text) h =
    set_sets (set b j y) r (suc j) x text (omega arith)
    ∙ ap (λ (l : List ℕ). sets l (suc j) text) (set_comm b j r y x (λ e. omega arith))

-- what a longer text is written over is forgotten
written_over : (b : List ℕ) (r : ℕ) (old new : List ℕ) → length old ≤ length new → sets (sets b r old) r new ≡ sets b r new
written_over b r [] new h = refl
written_over b r (x ∷ old) [] h = absurd (omega arith)
written_over b r (x ∷ old) (y ∷ new) h =
    let e : set (set b r x) r y ≡ set b r y = set-set b r x y in
    ap (λ (l : List ℕ). sets l (suc r) new)
    (set_sets (set b r x) r (suc r) y old (omega arith) ∙ ap (λ (l : List ℕ). sets l (suc r) old) e)
    ∙ written_over (set b r y) (suc r) old new (omega arith)

-- nothing is spoiled
pub exact : (k : ℕ) {a b : Writer} {text : List ℕ} → Wrote a text b → Loose k a text b
exact k {a} {b} {text} w =
    record {
      bytes = λ next g.
          ap (λ (l : List ℕ). sets l b.at next) w.bytes
          ∙ (ap (λ (m : ℕ). sets (sets a.bytes.now a.at text) m next) w.end ∙ sets_append a.bytes.now a.at text next);
      end = w.end;
      size = room w;
      same = w.same;
    }

pub loosely :
    (k : ℕ) {j : ℕ} {a b c : Writer} {m n : List ℕ} → Loose k a m b → Loose j b n c → k ≤ length n + j
    → Loose j a (m ++ n) c
loosely k {j} {a} {b} {c} {m} {n} g h i =
    record {
      bytes = λ next f.
          h.bytes next f ∙ (g.bytes (n ++ next) (simp length-append (omega arith)) ∙ ap (sets a.bytes.now a.at) (sym (append_assoc m n next)));
      end = simp length-append (omega (arith, g.end, h.end));
      size = h.size ∙ g.size;
      same = h.same ∙ g.same;
    }

pub finish : (k : ℕ) {a b c : Writer} {m n : List ℕ} → Loose k a m b → Wrote b n c → k ≤ length n → Wrote a (m ++ n) c
finish k {a} {b} {c} {m} {n} g w i =
    record {
      bytes = w.bytes ∙ g.bytes n i;
      end = simp length-append (omega (arith, g.end, w.end));
      same = w.same ∙ g.same;
    }

pub loose_as : {k : ℕ} {a b : Writer} {m n : List ℕ} → Loose k a m b → m ≡ n → Loose k a n b
loose_as {k} {a} {b} {m} {n} w e = subst (λ (l : List ℕ). Loose k a l b) e w

-- the lowest bytes of a word
take_bytes : (m k w : ℕ) → m ≤ k → take m (bytes_of k w) ≡ bytes_of m w
take_bytes zero k w h = refl
take_bytes (suc m) zero w h = absurd (omega arith)
take_bytes (suc m) (suc k) w h = ap (λ (l : List ℕ). w % 256 ∷ l) (take_bytes m k (w / 256) (omega arith))

pub length_bytes : (k w : ℕ) → length (bytes_of k w) ≡ k
length_bytes zero w = refl
length_bytes (suc k) w = ap suc (length_bytes k (w / 256))

-- they are those that std gives
byte : (i w : ℕ) → byte_at i w ≡ w / 256 ^ i % 256
byte zero w = ap (λ (k : ℕ). k % 256) (sym (div-one w))
byte (suc i) w = refl

low_bytes : (i k w : ℕ) → bytes_low_first i k w ≡ bytes_of k (w / 256 ^ i)
low_bytes i zero w = refl
low_bytes i (suc k) w =
    let e : w / 256 ^ suc i ≡ w / 256 ^ i / 256 = ap (λ (m : ℕ). w / m) (pow-suc 256 i) ∙ sym (div-div-eq-div-mul w (256 ^ i) 256) in
    ap (λ (x : ℕ). x ∷ bytes_low_first (suc i) k w) (byte i w)
    ∙ ap (λ (l : List ℕ). w / 256 ^ i % 256 ∷ l) (low_bytes (suc i) k w ∙ ap (bytes_of k) e)

pub word_bytes : (w : ℕ) → bytes_low_first 0 8 w ≡ bytes_of 8 w
word_bytes w = low_bytes 0 8 w ∙ ap (bytes_of 8) (div-one w)

-- eight bytes were written, and a byte behind those of them that count
pub word :
    {a b : Writer} {text : List ℕ} (w len behind : ℕ) → b.bytes.now ≡ set (sets a.bytes.now a.at (bytes_of 8 w)) (a.at + len) behind
    → b.at ≡ a.at + len + 1 → b.bytes.ghost_name ≡ a.bytes.ghost_name → bytes_of len w ≡ text → 1 ≤ len → len ≤ 8
    → Loose 6 a (text ++ (behind ∷ [])) b
word {a} {b} {text} w len behind e p s t some most =
    let old = a.bytes.now in
    let at = a.at in
    let rest = drop len (bytes_of 8 w) in
    let n : length text ≡ len = sym (ap length t) ∙ length_bytes len w in
    let size : length rest ≤ 7 = omega (arith, length-drop len (bytes_of 8 w), length_bytes 8 w) in
    let f : bytes_of 8 w ≡ text ++ rest =
    sym (take-append-drop len (bytes_of 8 w)) ∙ ap (λ (l : List ℕ). l ++ rest) (take_bytes len 8 w most ∙ t) in
    let g : sets old at (bytes_of 8 w) ≡ sets (sets old at text) (at + len) rest =
    ap (sets old at) f ∙ (sym (sets_append old at text rest) ∙ ap (λ (k : ℕ). sets (sets old at text) (at + k) rest) n) in
    record {
      bytes = λ next h.
          ap (λ (l : List ℕ). sets l b.at next) (e ∙ ap (λ (l : List ℕ). set l (at + len) behind) g)
          ∙ (ap (λ (k : ℕ). sets (set (sets (sets old at text) (at + len) rest) (at + len) behind) k next) (p ∙ add-one (at + len))
          ∙ (written_over (sets old at text) (at + len) rest (behind ∷ next) (omega arith)
          ∙ (ap (λ (k : ℕ). sets (sets old at text) (at + k) (behind ∷ next)) (sym n)
          ∙ (sets_append old at text (behind ∷ next) ∙ ap (sets old at) (sym (append_assoc text (behind ∷ []) next))))));
      end = simp length-append (omega (arith, p, n));
      size = ap length e ∙ (length-set (sets old at (bytes_of 8 w)) (at + len) behind ∙ length-sets old at (bytes_of 8 w));
      same = s;
    }

-- a row in six fields
pub six :
    (i k : ℕ) (segment : List ℕ) {s e l m : ℕ} → length segment ≡ 4
    → s ≡ get_or segment 0 0 → e ≡ get_or segment 1 0 → l ≡ get_or segment 2 0 → m ≡ get_or segment 3 0
    → field i 32 ++ (field k 32 ++ (field s 32 ++ (field e 32 ++ (field l 32 ++ field m 10)))) ≡ row (i ∷ k ∷ segment)
six i k [] h p q r t = absurd (omega arith)
six i k (a ∷ []) h p q r t = absurd (omega arith)
six i k (a ∷ b ∷ []) h p q r t = absurd (omega arith)
six i k (a ∷ b ∷ c ∷ []) h p q r t = absurd (omega arith)
six i k (a ∷ b ∷ c ∷ d ∷ []) h p q r t = rw (p, q, r, t)
six i k (a ∷ b ∷ c ∷ d ∷ f ∷ xs) h p q r t = absurd (omega arith)

-- a row has a byte for each number at least, so that one of six numbers writes over all that is spoiled
pub row_covers : (ns : List ℕ) → length ns ≤ length (row ns)
row_covers [] = omega arith
row_covers (n ∷ []) = simp length-append (omega arith)
row_covers (n ∷ m ∷ ns) = let h = row_covers (m ∷ ns) in omega (arith, length-append (field n 32) (row (m ∷ ns)), length-append (decimal n) (32 ∷ []))
