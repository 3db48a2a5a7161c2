-- What document 02, A12, owes of a roof and of the same roof drawn from its other end.
use Rattle.std.specs.Prelude.{ℕ, suc, ◌+◌, ◌-◌, ◌≤◌, ◌≡◌, List, [], ◌∷◌}
use Rattle.figures.specs.declared.national.National.{National}
use Rattle.figures.specs.declared.site.Site.{Site}
use Rattle.figures.specs.declared.roof.Roof.{Roof}
use Rattle.rounding.specs.Fraction.{Same}
use Rattle.standard.specs.Answers.{make_answer, segment_count_answer, segment_answer, load_answer}
use Rattle.standard.specs.Arrangements.{count, stretch, end_of, load_in_parts, exact_at}
use Rattle.standard.specs.Forces.{overhang_answer, guard_answer}
use Rattle.standard.specs.Stretch.{Stretch, start_of, read_in, segment}
use Rattle.turned_roofs.specs.Turned.{turned, slope_exchanged}

-- segment i of a run, on a roof that ends at `end`, from the other end: it starts where the segment ends
unfoldable pub segment_from_end : ℕ → ℕ → (ℕ → Stretch) → ℕ → List ℕ
segment_from_end end g S i =
    (end - (start_of S i + (S i).extent)) ∷ (end - start_of S i) ∷ read_in g (S i) (S i).extent ∷ read_in g (S i) 0 ∷ []

-- "the load at a position must equal the load at the roof's end less that position", of the arrangement of a roof and that of another:
-- in any parts, and by the exact rule. Their segments are the same from either end
pub record SameFromEnd (national : National) (site : Site) (roof : Roof) (code : ℕ) (other : Roof) (other_code : ℕ) : Type 0 where
  pub as_long : end_of other ≡ end_of roof
  pub as_many : count national other other_code ≡ count national roof code
  pub load :
      (g p : ℕ) → p ≤ end_of roof
      → load_in_parts g national site other other_code (end_of roof - p) ≡ load_in_parts g national site roof code p
  pub exact : (p : ℕ) → p ≤ end_of roof → Same (exact_at national site other other_code (end_of roof - p)) (exact_at national site roof code p)
  pub segments :
      (g i j : ℕ) → suc (i + j) ≡ count national roof code
      → segment g (stretch national site other other_code) j ≡ segment_from_end (end_of roof) g (stretch national site roof code) i

-- the same of what the calls on figures answer about the two, refusals included
pub record AnsweredAlike (store : List ℕ) (site : Site) (roof : Roof) (code : ℕ) (other : Roof) (other_code : ℕ) : Type 0 where
  pub load : (p : ℕ) → p ≤ end_of roof → load_answer store site other other_code (end_of roof - p) ≡ load_answer store site roof code p
  pub make : (room : ℕ) → make_answer store site other other_code room ≡ make_answer store site roof code room
  pub count : segment_count_answer store site other other_code ≡ segment_count_answer store site roof code
  pub segment : (i room : ℕ) → segment_answer store site other other_code i room ≡ segment_answer store site roof code i room

-- and of the local forces on kind 3: with left and right its slopes change places, and their eaves and guards with them
pub record ForcesAlike (store : List ℕ) (site : Site) (roof : Roof) : Type 0 where
  pub eave : (n : ℕ) → overhang_answer store site (turned roof) (slope_exchanged n) ≡ overhang_answer store site roof n
  pub guard : (n : ℕ) → guard_answer store site (turned roof) (slope_exchanged n) ≡ guard_answer store site roof n
