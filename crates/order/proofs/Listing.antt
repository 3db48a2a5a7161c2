-- The order of the listing: every roof once, its upper item before it.
use Prim.Native.Nat.{ℕ, zero, suc, ◌+◌, ◌-◌, ◌≤◌, ◌<◌}
use mathlib.Core.Path.{◌≡◌, refl, ◌∙◌}
use mathlib.Core.Bool.{Bool, true, false, cond, not, ◌||◌}
use mathlib.Core.List.{List, [], ◌∷◌, ◌++◌}
use mathlib.Core.Logic.{◌⊎◌, inl, inr, ⊎_elim}
use borrow.Author.Tests.{eqb-true, eqb-false, not-true}
use lib.Dec.{eqb}
use lib.ListN.{length, take, get_or, length-append, get_or-append}
use lib.Seq.{take-append-le, take-append_seam, get_or-append_seam, get_or_at}
use native.Mathlib.Nat.{eq-or-lt_of_le, eq-zero-or-pos}
use native.Mathlib.Omega.{arith}
use Rattle.figures.proofs.Laws.{both}
use Rattle.circles.specs.Following.{comes_back, listed}
use Rattle.order.specs.Order.{lowest, ready, next_roof, added, first_roofs, order, times, Ordered, up_to}
use Rattle.figures.proofs.Tests.{told, clash}
use Rattle.order.proofs.Searching.{none, found, first}
use Rattle.circles.proofs.Lists.{listed_more, more_same, more_other, more_kept, left, left_none, one_less, all_listed, some_left}
use Rattle.circles.proofs.Following.{after, ends}

neither : (a b : Bool) → (a || b) ≡ false → (a ≡ false) × (b ≡ false)
neither true b h = clash refl h
neither false b h = (refl, h)

one : (a b : Bool) → (a || b) ≡ true → (a ≡ true) ⊎ (b ≡ true)
one true b h = inl refl
one false b h = inr h

pub times_more : (l : List ℕ) (x i : ℕ) → times (l ++ (x ∷ [])) i ≡ cond (eqb x i) 1 0 + times l i
unfolding times
times_more [] x i = refl
times_more (y ∷ l) x i = rw (times_more l x i) (omega arith)

-- a roof that is left is ready, or one above it is
some_ready : (up : ℕ → ℕ) (n : ℕ) → ((i : ℕ) → i < n → up i < n) → (done : ℕ → Bool) (s i : ℕ) → after up s i ≡ 0 → 0 < i → i < n → done i ≡ false
    → (x : ℕ) × (0 < x) × (x < n) × (ready up done x ≡ true)
unfolding after ready
some_ready up n b done zero i e p q f = absurd (omega arith)
some_ready up n b done (suc s) i e p q f =
    ⊎_elim (λ (t : (eqb (up i) 0 || done (up i)) ≡ true). (i, p, q, rw (f, t)))
    (λ (t : (eqb (up i) 0 || done (up i)) ≡ false).
    let r = neither (eqb (up i) 0) (done (up i)) t in
    some_ready up n b done s (up i) e (⊎_elim (λ z. absurd (eqb-false (up i) 0 r.0 z)) (λ z. z) (eq-zero-or-pos (up i))) (b i q) r.1)
    (told (eqb (up i) 0 || done (up i)))

-- what a ready roof is
ready_left : (up : ℕ → ℕ) (done : ℕ → Bool) (x : ℕ) → ready up done x ≡ true → done x ≡ false
unfolding ready
ready_left up done x h = not-true (done x) (both (not (done x)) (eqb (up x) 0 || done (up x)) h).0

ready_upper : (up : ℕ → ℕ) (done : ℕ → Bool) (x : ℕ) → ready up done x ≡ true → (up x ≡ 0) ⊎ (done (up x) ≡ true)
unfolding ready
ready_upper up done x h =
    ⊎_elim (λ z. inl (eqb-true (up x) 0 z)) inr (one (eqb (up x) 0) (done (up x)) (both (not (done x)) (eqb (up x) 0 || done (up x)) h).1)

pub added_roof : (l : List ℕ) (x : ℕ) → 0 < x → added l x ≡ l ++ (x ∷ [])
unfolding added
added_roof l zero h = absurd (omega arith)
added_roof l (suc x) h = refl

-- what holds of the empty list, and of a list with a ready roof more, holds after k roofs
by_roofs : (up : ℕ → ℕ) (n : ℕ) (P : List ℕ → Type 0) → P []
    → ((l : List ℕ) (x : ℕ) → P l → 0 < x → x < n → ready up (listed l) x ≡ true → P (l ++ (x ∷ []))) → (k : ℕ) → P (first_roofs up n k)
unfolding first_roofs next_roof
by_roofs up n P p h zero = p
by_roofs up n P p h (suc k) =
    let l : List ℕ = first_roofs up n k in
    let q : P l = by_roofs up n P p h k in
    let x : ℕ = lowest (ready up (listed l)) 1 (n - 1) in
    ⊎_elim (λ (z : x ≡ 0). let e : added l x ≡ l = rw z (unfold added in refl) in rw e q)
    (λ (z : 0 < x). let f = found (ready up (listed l)) 1 (n - 1) z in rw (added_roof l x z) (h l x q z (omega arith) f.0))
    (eq-zero-or-pos x)

-- the roof at place j: an index of a roof, ready when those before it are listed
pub record Placed (up : ℕ → ℕ) (n : ℕ) (l : List ℕ) (j : ℕ) : Type 0 where
  pub some : 0 < get_or l j 0
  pub item : get_or l j 0 < n
  pub ready : ready up (listed (take j l)) (get_or l j 0) ≡ true

placed : (up : ℕ → ℕ) (n k j : ℕ) → j < length (first_roofs up n k) → Placed up n (first_roofs up n k) j
placed up n k =
    by_roofs up n (λ l. (j : ℕ) → j < length l → Placed up n l j) (λ j h. absurd (omega arith))
    (λ l x p a b r j h.
    ⊎_elim (λ (w : j ≡ length l).
    let e = get_or-append_seam l x [] 0 in
    rw w (record { some = rw e a; item = rw e b; ready = rw (take-append_seam l (x ∷ []), e) r }))
    (λ (w : j < length l).
    let q = p j w in
    let e = get_or-append l (x ∷ []) 0 j w in
    record { some = rw e q.some; item = rw e q.item; ready = rw (take-append-le j l (x ∷ []) (omega arith), e) q.ready })
    (eq-or-lt_of_le (omega (arith, length-append l (x ∷ [])))))
    k

-- no roof is listed twice
times_listed : (up : ℕ → ℕ) (n k i : ℕ) → times (first_roofs up n k) i ≡ cond (listed (first_roofs up n k) i) 1 0
times_listed up n k =
    by_roofs up n (λ l. (i : ℕ) → times l i ≡ cond (listed l i) 1 0) (λ i. unfold times listed in refl)
    (λ l x p a b r i.
    ⊎_elim (λ (w : eqb x i ≡ true).
    let e : listed l i ≡ false = rw (eqb-true x i w) at (ready_left up (listed l) x r) in
    rw (times_more l x i, listed_more l x i, w, p i, e))
    (λ (w : eqb x i ≡ false). rw (times_more l x i, listed_more l x i, w) (omega (arith, p i)))
    (told (eqb x i)))
    k

-- the upper items are items, and no roof comes back to itself
module _ (up : ℕ → ℕ) (n : ℕ) (below : (i : ℕ) → i < n → up i < n) (straight : (i : ℕ) → 0 < i → i < n → comes_back up n i ≡ false) where
  -- while a roof is left, there is a next one
  some_next : (l : List ℕ) → 0 < left l 1 (n - 1) → 0 < next_roof up n (listed l)
  unfolding next_roof
  some_next l h =
      let i = some_left l 1 (n - 1) h in
      let e = ends up n below straight i.0 (omega arith) in
      let r = some_ready up n below (listed l) e.0 i.0 e.1 i.1 (omega arith) i.3 in
      ⊎_elim (λ z. clash r.3 (none (ready up (listed l)) 1 (n - 1) (omega arith) z r.0 r.1 (omega arith))) (λ z. z)
      (eq-zero-or-pos (lowest (ready up (listed l)) 1 (n - 1)))

  -- every step lists a roof
  counted : (k : ℕ) → k ≤ n - 1 → (length (first_roofs up n k) ≡ k) × (left (first_roofs up n k) 1 (n - 1) + k ≡ n - 1)
  unfolding first_roofs next_roof
  counted zero h = (refl, omega (arith, left_none 1 (n - 1)))
  counted (suc k) h =
      let l : List ℕ = first_roofs up n k in
      let x : ℕ = next_roof up n (listed l) in
      let c = counted k (omega arith) in
      let p = some_next l (omega arith) in
      let f = found (ready up (listed l)) 1 (n - 1) p in
      let d = one_less l x 1 (n - 1) f.1 f.2 (ready_left up (listed l) x f.0) in
      rw (added_roof l x p) (simp length-append (omega arith), omega arith)

  every_length : length (order up n) ≡ n - 1
  unfolding order
  every_length = (counted (n - 1) (omega arith)).0

  -- every roof is listed once
  every_once : (i : ℕ) → 0 < i → i < n → times (order up n) i ≡ 1
  unfolding order
  every_once i p q =
      let l : List ℕ = first_roofs up n (n - 1) in
      let e : left l 1 (n - 1) ≡ 0 = omega (arith, (counted (n - 1) (omega arith)).1) in
      rw (times_listed up n (n - 1) i, all_listed l 1 (n - 1) i e p (omega arith))

  -- every place has a roof
  roof_at : (j : ℕ) → j < n - 1 → (0 < get_or (order up n) j 0) × (get_or (order up n) j 0 < n)
  unfolding order
  roof_at j h = let p = placed up n (n - 1) j (omega (arith, every_length)) in (p.some, p.item)

  -- the upper item of the roof at each place stands before it
  upper_before : (j : ℕ) → j < n - 1 → (up (get_or (order up n) j 0) ≡ 0) ⊎ (listed (take j (order up n)) (up (get_or (order up n) j 0)) ≡ true)
  unfolding order
  upper_before j h =
      let l : List ℕ = first_roofs up n (n - 1) in
      ready_upper up (listed (take j l)) (get_or l j 0) (placed up n (n - 1) j (omega (arith, every_length))).ready

  pub ordered : Ordered up n (order up n)
  ordered = record { places = every_length; roof = roof_at; once = every_once; upper_first = upper_before }

-- the roofs 1 to k, and no others
upto_in : (k i : ℕ) → 0 < i → i ≤ k → listed (up_to k) i ≡ true
unfolding up_to
upto_in zero i p q = absurd (omega arith)
upto_in (suc k) i p q =
    ⊎_elim (λ (w : i ≡ suc k). rw w (more_same (up_to k) (suc k)))
    (λ (w : i < suc k). more_kept (up_to k) (suc k) i (upto_in k i p (omega arith)))
    (eq-or-lt_of_le q)

upto_out : (k i : ℕ) → k < i → listed (up_to k) i ≡ false
unfolding up_to listed
upto_out zero i h = refl
upto_out (suc k) i h = more_other (up_to k) (suc k) i (λ e. omega arith) ∙ upto_out k i (omega arith)

pub upto_length : (k : ℕ) → length (up_to k) ≡ k
unfolding up_to
upto_length zero = refl
upto_length (suc k) = simp length-append (omega (arith, upto_length k))

pub upto_at : (k j : ℕ) → j < k → get_or (up_to k) j 0 ≡ suc j
unfolding up_to
upto_at zero j h = absurd (omega arith)
upto_at (suc k) j h =
    let n : length (up_to k) ≡ k = upto_length k in
    ⊎_elim (λ (w : j ≡ k). rw w (get_or_at (up_to k) (suc k) [] 0 k n))
    (λ (w : j < k). get_or-append (up_to k) (suc k ∷ []) 0 j (omega arith) ∙ upto_at k j w)
    (eq-or-lt_of_le (omega arith))

module _ (up : ℕ → ℕ) (n : ℕ) (alone : (i : ℕ) → i < n → up i ≡ 0) where
  next_alone : (k : ℕ) → k < n - 1 → next_roof up n (listed (up_to k)) ≡ suc k
  unfolding next_roof ready
  next_alone k h =
      first (ready up (listed (up_to k))) 1 (n - 1) (suc k) (omega arith) (omega arith)
      (rw (upto_out k (suc k) (omega arith), alone (suc k) (omega arith)))
      (λ j p q. rw (upto_in k j p (omega arith)))

  first_alone : (k : ℕ) → k ≤ n - 1 → first_roofs up n k ≡ up_to k
  unfolding first_roofs up_to added
  first_alone zero h = refl
  first_alone (suc k) h = rw (first_alone k (omega arith), next_alone k h)

  -- where no roof has an upper item, roofs are listed by their indexes
  pub in_turn_lem : order up n ≡ up_to (n - 1)
  unfolding order
  in_turn_lem = first_alone (n - 1) (omega arith)
