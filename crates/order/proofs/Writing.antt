-- What the loop that writes the order keeps, turn by turn.
use Prim.Native.Nat.{ℕ, zero, suc, ◌+◌, ◌-◌, ◌≤◌, ◌<◌}
use mathlib.Core.Path.{◌≡◌, refl, sym, ap, fun_ext, ◌∙◌}
use mathlib.Core.Bool.{Bool, true, false}
use mathlib.Core.List.{List, [], ◌∷◌, ◌++◌}
use mathlib.Core.Logic.{⊎_elim}
use borrow.Author.Tests.{eqb-true, eqb-false}
use lib.Dec.{eqb}
use lib.ListN.{length, drop, get_or, set, replicate, length-append, length-set}
use lib.Seq.{drop-cons, set_at, append_snoc, get_or-set_same, get_or-set_other}
use native.Mathlib.Numerals.{add-one}
use native.Mathlib.Omega.{arith}
use Rattle.circles.specs.Following.{listed}
use Rattle.order.specs.Order.{marked_in, ready, next_roof, added, first_roofs, order, up_to}
use Rattle.figures.proofs.Tests.{told}
use Rattle.order.proofs.Searching.{found}
use Rattle.circles.proofs.Lists.{listed_more}
use Rattle.order.proofs.Listing.{added_roof, upto_length}

-- k roofs are written and marked, and the bytes behind them are the old ones
pub record Written (up : ℕ → ℕ) (n : ℕ) (old : List ℕ) (k : ℕ) (out : List ℕ) (marks : List Bool) : Type 0 where
  pub count : length (first_roofs up n k) ≡ k
  pub bytes : out ≡ first_roofs up n k ++ drop k old
  pub room : length out ≡ length old
  pub table : length marks ≡ 32
  pub marked : (i : ℕ) → marked_in marks i ≡ listed (first_roofs up n k) i

-- a table of one value has it at every place, and behind the last
pub all_alike : {A : Type 0} (x : A) (m i : ℕ) → get_or (replicate m x) i x ≡ x
all_alike x zero i = refl
all_alike x (suc m) zero = refl
all_alike x (suc m) (suc i) = all_alike x m i

-- where no roof is ready, none is added any more
stays : (up : ℕ → ℕ) (n k d : ℕ) → next_roof up n (listed (first_roofs up n k)) ≡ 0 → first_roofs up n (d + k) ≡ first_roofs up n k
unfolding first_roofs added
stays up n k zero h = let e : 0 + k ≡ k = omega arith in rw e
stays up n k (suc d) h = let e : suc d + k ≡ suc (d + k) = omega arith in rw (e, first_roofs, stays up n k d h, h)

pub begin : (up : ℕ → ℕ) (n : ℕ) (old : List ℕ) → Written up n old 0 old (replicate 32 false)
unfolding first_roofs listed
begin up n old = record { count = refl; bytes = refl; room = refl; table = refl; marked = all_alike false 32 }

-- x is the next roof, or 0
module _ {up : ℕ → ℕ} {n : ℕ} {old : List ℕ} {k : ℕ} {out : List ℕ} {marks : List Bool} {x : ℕ}
    (w : Written up n old k out marks) (e : x ≡ next_roof up n (marked_in marks)) where
  next : x ≡ next_roof up n (listed (first_roofs up n k))
  next = e ∙ ap (next_roof up n) (fun_ext w.marked)

  pub in_range : 0 < x → x < n
  unfolding next_roof
  in_range h = let f = found (ready up (marked_in marks)) 1 (n - 1) (rw e at h) in omega arith

  pub stuck : x ≡ 0 → k ≤ n - 1 → order up n ≡ first_roofs up n k
  unfolding order
  stuck z h = let s : n - 1 - k + k ≡ n - 1 = omega arith in rw (← s) (stays up n k (n - 1 - k) (sym next ∙ z))

  grown : 0 < x → first_roofs up n (k + 1) ≡ first_roofs up n k ++ (x ∷ [])
  unfolding first_roofs
  grown h = rw (add-one k, first_roofs, ← next) (added_roof (first_roofs up n k) x h)

  pub turn : 0 < x → x < 32 → k < length old → Written up n old (k + 1) (set out k x) (set marks x true)
  turn h p q =
      let l : List ℕ = first_roofs up n k in
      let g : first_roofs up n (k + 1) ≡ l ++ (x ∷ []) = grown h in
      record {
        count = rw (g, length-append l (x ∷ [])) (omega (arith, w.count));
        bytes = rw (g, w.bytes, drop-cons old k 0 q, set_at l (get_or old k 0) (drop (suc k) old) x k w.count, append_snoc, add-one k);
        room = length-set out k x ∙ w.room;
        table = length-set marks x true ∙ w.table;
        marked = λ i.
            rw (g, listed_more l x i)
            (⊎_elim (λ (t : eqb x i ≡ true). rw (t, ← eqb-true x i t) (get_or-set_same marks x true false (omega (arith, w.table))))
            (λ (t : eqb x i ≡ false). rw t (get_or-set_other marks x i true false (λ z. eqb-false x i t (sym z)) ∙ w.marked i))
            (told (eqb x i)));
      }

-- the roofs 1 to k are written, and the bytes behind them are the old ones
pub record Counted (old : List ℕ) (k : ℕ) (out : List ℕ) : Type 0 where
  pub bytes : out ≡ up_to k ++ drop k old
  pub room : length out ≡ length old

pub counted_none : (old : List ℕ) → Counted old 0 old
unfolding up_to
counted_none old = record { bytes = refl; room = refl }

pub counted_turn : {old : List ℕ} {k : ℕ} {out : List ℕ} → Counted old k out → k < length old → Counted old (k + 1) (set out k (k + 1))
unfolding up_to
counted_turn {old} {k} {out} w h =
    record {
      bytes = rw (w.bytes, drop-cons old k 0 h, set_at (up_to k) (get_or old k 0) (drop (suc k) old) (k + 1) k (upto_length k), add-one k, up_to, append_snoc);
      room = length-set out k (k + 1) ∙ w.room;
    }
