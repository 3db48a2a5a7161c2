-- Digits in a word: which bytes it has, and how many of them count.
use Prim.Native.Nat.{ℕ, zero, suc, ◌+◌, ◌-◌, ◌*◌, ◌/◌, ◌%◌, ◌^◌, ◌≤◌, ◌<◌}
use mathlib.Core.Path.{◌≡◌, refl, ap, sym, ◌∙◌}
use mathlib.Core.Bool.{Bool, true, false, cond}
use mathlib.Core.List.{List, [], ◌∷◌, ◌++◌}
use native.Mathlib.Nat.{pow-succ', div-one, zero-div, div-div-eq-div-mul}
use native.Mathlib.Omega.{arith}
use borrow.Author.Tests.{ltb-true, leb-true, leb-false, lt-leb}
use lib.Dec.{ltb, leb}
use Rattle.std.specs.Int.{from_bool}
use lib.Pow.{pow-add}
use lib.ListN.{length, drop, length-append, length-drop}
use lib.Seq.{drop_at, drop-append-le}
use Rattle.text.specs.Text.{decimal_in, decimal, digit, four_of}
use Rattle.text.proofs.Writing.{fuel, four_behind, one_digit, counted}
use Rattle.digits.specs.Words.{bytes_of, pack, padded, pair_word}

-- bytes, each below 256
data Small : List ℕ → Type 0 where
  none : Small []
  more : {d : ℕ} {ds : List ℕ} → d < 256 → Small ds → Small (d ∷ ds)

small_drop : (k : ℕ) {ds : List ℕ} → Small ds → Small (drop k ds)
small_drop zero s = s
small_drop (suc k) none = none
small_drop (suc k) (more h s) = small_drop k s

-- a word's bytes are the text that it was packed from
unpack : {ds : List ℕ} → Small ds → bytes_of (length ds) (pack ds) ≡ ds
unpack none = refl
unpack (more {d} {ds} h s) =
    let e : (d + 256 * pack ds) % 256 ≡ d = omega arith in
    let f : (d + 256 * pack ds) / 256 ≡ pack ds = omega arith in
    ap (λ (x : ℕ). x ∷ bytes_of (length ds) ((d + 256 * pack ds) / 256)) e
    ∙ ap (λ (l : List ℕ). d ∷ l) (ap (bytes_of (length ds)) f ∙ unpack s)

-- a shift leaves the first bytes out
shift : (k : ℕ) {ds : List ℕ} → Small ds → pack ds / 256 ^ k ≡ pack (drop k ds)
shift zero {ds} s = div-one (pack ds)
shift (suc k) none = zero-div (256 ^ suc k)
shift (suc k) (more {d} {ds} h s) =
    let f : (d + 256 * pack ds) / 256 ≡ pack ds = omega arith in
    ap (λ (m : ℕ). (d + 256 * pack ds) / m) (pow-succ' 256 k)
    ∙ (sym (div-div-eq-div-mul (d + 256 * pack ds) 256 (256 ^ k)) ∙ (ap (λ (m : ℕ). m / 256 ^ k) f ∙ shift k s))

bits : (k : ℕ) → 2 ^ (8 * k) ≡ 256 ^ k
bits zero = refl
bits (suc k) =
    let e : 8 * suc k ≡ 8 + 8 * k = omega arith in
    ap (λ (m : ℕ). 2 ^ m) e ∙ (pow-add 2 8 (8 * k) ∙ (ap (λ (m : ℕ). 256 * m) (bits k) ∙ sym (pow-succ' 256 k)))

length_padded : (k n : ℕ) → length (padded k n) ≡ k
length_padded zero n = refl
length_padded (suc k) n = length-append (padded k (n / 10)) (digit n ∷ []) ∙ (ap (λ (m : ℕ). m + 1) (length_padded k (n / 10)) ∙ omega arith)

-- the decimal is the padded one without its zeros
abbrev Bare : ℕ → ℕ → List ℕ → Type 0
Bare f n ds = ds ≡ drop (suc f - length ds) (padded (suc f) n)

bare_by :
    (t : Bool) (f n : ℕ) → ltb n 10 ≡ t → Bare f (n / 10) (decimal_in f (n / 10))
    → Bare (suc f) n (cond t ((48 + n) ∷ []) (decimal_in f (n / 10) ++ (digit n ∷ [])))
bare_by true f n e h =
    let l : n < 10 = ltb-true n 10 e in
    let d : 48 + n ≡ digit n = omega arith in
    let P = padded (suc f) (n / 10) in
    let k : suc (suc f) - length ((48 + n) ∷ []) ≡ suc f = omega arith in
    ap (λ (x : ℕ). x ∷ []) d
    ∙ (sym (drop_at P (digit n ∷ []) (suc f) (length_padded (suc f) (n / 10))) ∙ ap (λ (m : ℕ). drop m (P ++ (digit n ∷ []))) (sym k))
bare_by false f n e h =
    let D = decimal_in f (n / 10) in
    let P = padded (suc f) (n / 10) in
    let k : suc (suc f) - length (D ++ (digit n ∷ [])) ≡ suc f - length D = simp length-append (omega arith) in
    ap (λ (l : List ℕ). l ++ (digit n ∷ [])) h
    ∙ (sym (drop-append-le (suc f - length D) P (digit n ∷ []) (omega (arith, length_padded (suc f) (n / 10))))
    ∙ ap (λ (m : ℕ). drop m (P ++ (digit n ∷ []))) (sym k))

bare_in : (f n : ℕ) → Bare f n (decimal_in f n)
bare_in zero n = refl
bare_in (suc f) n = bare_by (ltb n 10) f n refl (bare_in f (n / 10))

-- eight and four digits are enough
in_eight : (n : ℕ) → n < 100000000 → decimal n ≡ decimal_in 7 n
unfolding decimal
in_eight n h = fuel 8 n (omega arith) ∙ fuel 7 n (omega arith)

in_four : (n : ℕ) → n < 10000 → decimal n ≡ decimal_in 3 n
in_four n h = in_eight n (omega arith) ∙ (fuel 6 n (omega arith) ∙ (fuel 5 n (omega arith) ∙ (fuel 4 n (omega arith) ∙ fuel 3 n (omega arith))))

bare : (f n : ℕ) → decimal n ≡ decimal_in f n → Bare f n (decimal n)
bare f n e = e ∙ (bare_in f n ∙ ap (λ (l : List ℕ). drop (suc f - length l) (padded (suc f) n)) (sym e))

small_snoc : {ds : List ℕ} (d : ℕ) → Small ds → d < 256 → Small (ds ++ (d ∷ []))
small_snoc d none h = more h none
small_snoc d (more g s) h = more g (small_snoc d s h)

small_padded : (k n : ℕ) → Small (padded k n)
small_padded zero n = none
small_padded (suc k) n = small_snoc (digit n) (small_padded k (n / 10)) (omega arith)

-- the word of k digits, shifted by its zeros, has the decimal in its lowest bytes
shifted : (k n len : ℕ) → decimal n ≡ drop (k - length (decimal n)) (padded k n) → len ≡ length (decimal n) → len ≤ k
    → bytes_of len (pack (padded k n) / 2 ^ (8 * (k - len))) ≡ decimal n
shifted k n len h e m =
    let j = k - len in
    let l : length (drop j (padded k n)) ≡ len = length-drop j (padded k n) ∙ omega (arith, length_padded k n) in
    let b : drop j (padded k n) ≡ decimal n = ap (λ (i : ℕ). drop (k - i) (padded k n)) e ∙ sym h in
    ap (λ (p : ℕ). bytes_of len (pack (padded k n) / p)) (bits j)
    ∙ (ap (bytes_of len) (shift j (small_padded k n))
    ∙ (ap (λ (i : ℕ). bytes_of i (pack (drop j (padded k n)))) (sym l) ∙ (unpack (small_drop j (small_padded k n)) ∙ b)))

pub shifted_four : (n len : ℕ) → n < 10000 → len ≡ length (decimal n) → len ≤ 4 → bytes_of len (pack (padded 4 n) / 2 ^ (8 * (4 - len))) ≡ decimal n
shifted_four n len h = shifted 4 n len (bare 3 n (in_four n h))

pub shifted_eight : (n len : ℕ) → 10000 ≤ n → n < 100000000 → len ≡ length (decimal (n / 10000)) → len ≤ 4
    → bytes_of (len + 4) (pack (padded 8 n) / 2 ^ (8 * (4 - len))) ≡ decimal n
shifted_eight n len g h e m =
    let l : length (decimal n) ≡ length (decimal (n / 10000)) + 4 =
    ap length (four_behind n g (omega arith)) ∙ length-append (decimal (n / 10000)) (four_of n) in
    let k : 4 - len ≡ 8 - (len + 4) = omega arith in
    ap (λ (j : ℕ). bytes_of (len + 4) (pack (padded 8 n) / 2 ^ (8 * j))) k
    ∙ shifted 8 n (len + 4) (bare 7 n (in_eight n h)) (omega arith) (omega arith)

-- how many digits a number of at most four has
pub four_count : (n : ℕ) (a b c : Bool) → leb 10 n ≡ a → leb 100 n ≡ b → leb 1000 n ≡ c → n < 10000
    → 1 + from_bool a + from_bool b + from_bool c ≡ length (decimal n)
four_count n true true true e f g h = let r = leb-true 1000 n g in sym (counted 3 n r (omega arith) (omega arith))
four_count n true true false e f g h = let r = leb-true 100 n f in let s = leb-false 1000 n g in sym (counted 2 n r (omega arith) (omega arith))
four_count n true false c e f g h =
    let r = leb-true 10 n e in
    let s = leb-false 100 n f in
    let t : leb 1000 n ≡ false = lt-leb 1000 n (omega arith) in
    let u : c ≡ false = sym g ∙ t in
    rw u (sym (counted 1 n r (omega arith) (omega arith)))
four_count n false b c e f g h =
    let s = leb-false 10 n e in
    let t : leb 100 n ≡ false = lt-leb 100 n (omega arith) in
    let u : leb 1000 n ≡ false = lt-leb 1000 n (omega arith) in
    let v : b ≡ false = sym f ∙ t in
    let w : c ≡ false = sym g ∙ u in
    rw (v, w) (sym (ap length (one_digit n s)))

-- four and eight digits from two and four
pub four_word : (n : ℕ) → pair_word (n / 100) + 65536 * pair_word (n % 100) ≡ pack (padded 4 n)
four_word n =
    let b : digit (n / 100 / 10) ≡ digit (n / 10 / 10 / 10) = omega arith in
    let c : digit (n / 100) ≡ digit (n / 10 / 10) = omega arith in
    let d : digit (n % 100 / 10) ≡ digit (n / 10) = omega arith in
    let e : digit (n % 100) ≡ digit n = omega arith in
    omega arith

joined : {a b c d e f g h i j k l m o p q : ℕ} → a ≡ i → b ≡ j → c ≡ k → d ≡ l → e ≡ m → f ≡ o → g ≡ p → h ≡ q
    → pack (a ∷ b ∷ c ∷ d ∷ []) + 4294967296 * pack (e ∷ f ∷ g ∷ h ∷ []) ≡ pack (i ∷ j ∷ k ∷ l ∷ m ∷ o ∷ p ∷ q ∷ [])
joined a b c d e f g h = omega arith

pub eight_word : (n : ℕ) → pack (padded 4 (n / 10000)) + 4294967296 * pack (padded 4 (n % 10000)) ≡ pack (padded 8 n)
eight_word n =
    let m = n / 10000 in
    let o = n % 10000 in
    let a : digit (m / 10 / 10 / 10) ≡ digit (n / 10 / 10 / 10 / 10 / 10 / 10 / 10) = omega arith in
    let b : digit (m / 10 / 10) ≡ digit (n / 10 / 10 / 10 / 10 / 10 / 10) = omega arith in
    let c : digit (m / 10) ≡ digit (n / 10 / 10 / 10 / 10 / 10) = omega arith in
    let d : digit m ≡ digit (n / 10 / 10 / 10 / 10) = omega arith in
    let e : digit (o / 10 / 10 / 10) ≡ digit (n / 10 / 10 / 10) = omega arith in
    let f : digit (o / 10 / 10) ≡ digit (n / 10 / 10) = omega arith in
    let g : digit (o / 10) ≡ digit (n / 10) = omega arith in
    let h : digit o ≡ digit n = omega arith in
    joined a b c d e f g h
