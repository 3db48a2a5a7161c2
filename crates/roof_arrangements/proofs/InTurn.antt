-- Document 02, A11: "All indexes in turn give the list that the large slice would hold".
use Prim.Native.Nat.{ℕ, zero, suc, ◌*◌, ◌≤◌, ◌<◌}
use mathlib.Core.List.{List, ◌++◌}
use mathlib.Core.Path.{◌≡◌, refl}
use borrow.Author.Tests.{le-leb, lt-ltb, le-ltb}
use lib.ListN.{length, take, drop}
use native.Mathlib.Omega.{arith}
use Rattle.figures.specs.declared.national.National.{National}
use Rattle.figures.specs.declared.site.Site.{Site}
use Rattle.figures.specs.declared.roof.Roof.{Roof}
use Rattle.standard.specs.Answers.{Answer, value, refused, after_code, room_answer, make_in, segment_count_in, index_answer, segment_in, segment_slice}
use Rattle.standard.specs.Arrangements.{exists, count, stretch}
use Rattle.standard.specs.Stretch.{Stretch, segment, segments, lists_joined}
use Rattle.standard.specs.Units.{parts}
use Rattle.standard.proofs.Answered.{value_of}
use Rattle.roof_arrangements.specs.InTurn.{FiguresInTurn}

-- lists that are alike by their index are alike when they are joined
same_joined : (L M : ℕ → List ℕ) (n : ℕ) → ((i : ℕ) → i < n → L i ≡ M i) → lists_joined L n ≡ lists_joined M n
unfolding lists_joined
same_joined L M zero h = refl
same_joined L M (suc n) h = rw (h n (omega arith), same_joined L M n (λ i lt. h i (omega arith)))

-- the first four numbers of a slice that got a segment
front : (S : ℕ → Stretch) (i : ℕ) (rest : List ℕ) → take 4 (segment parts S i ++ rest) ≡ segment parts S i
unfolding segment
front S i rest = refl

module _ (made : ℕ → Answer) (one : ℕ → ℕ → Answer) (S : ℕ → Stretch) (n : ℕ) where
  pub in_turn :
      ((room : ℕ) → 4 * n ≤ room → made room ≡ value n) → ((i room : ℕ) → i < n → 4 ≤ room → one i room ≡ value 4)
      → ((i room : ℕ) → n ≤ i → one i room ≡ refused 12) → FiguresInTurn made one S n
  unfolding segments
  in_turn m e p =
      record {
        maker = m;
        each = e;
        past = p;
        list =
            λ old lent room fours.
            rw (
              m (length old) room,
              same_joined (λ i. take 4 (segment_slice (one i (length (lent i))) S i (lent i))) (segment parts S) n
                  (λ i lt. rw (e i (length (lent i)) lt (fours i lt)) (front S i (drop 4 (lent i)))),
            );
      }

-- of accepted figures
module _ (national : National) (site : Site) (roof : Roof) (code n : ℕ) where
  pub accepted_in_turn :
      segment_count_in national site roof code ≡ value n
      → FiguresInTurn (make_in national site roof code) (segment_in national site roof code) (stretch national site roof code) n
  unfolding segment_count_in make_in segment_in after_code room_answer index_answer
  accepted_in_turn h =
      let q = value_of (exists site roof code) (value (count national roof code)) 13 n h in
      let is : count national roof code ≡ n = cc q.1 in
      in_turn _ _ _ n
      (λ room fits. rw (q.0, is, le-leb (4 * n) room fits))
      (λ i room lt fits. rw (q.0, is, lt-ltb i n lt, le-leb 4 room fits))
      (λ i room past. rw (q.0, is, le-ltb i n past))
