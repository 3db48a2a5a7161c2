-- Document 02, A11: what "All indexes in turn give the list that the large slice would hold" means.
use Rattle.std.specs.Prelude.{ℕ, ◌*◌, ◌≤◌, ◌<◌, ◌≡◌, List, ◌++◌, length, take, drop}
use Rattle.standard.specs.Answers.{Answer, value, refused, made_slice, segment_slice}
use Rattle.standard.specs.Stretch.{Stretch, lists_joined}

-- Of an arrangement with n segments: what the maker answers in a slice of so many numbers and leaves in a lent one, and what is answered
-- and left for an index. The slices lent for the indexes hold anything, and may be longer than four numbers. How an answer says a number,
-- and 12, is among the arguments.
pub record AllInTurn {A : Type 0} (says : ℕ → A) (past_end : A) (made : ℕ → A) (left : List ℕ → List ℕ) (one : ℕ → ℕ → A)
    (left_by : ℕ → List ℕ → List ℕ) (n : ℕ) : Type 0 where
  pub maker : (room : ℕ) → 4 * n ≤ room → made room ≡ says n
  pub each : (i room : ℕ) → i < n → 4 ≤ room → one i room ≡ says 4
  pub past : (i room : ℕ) → n ≤ i → one i room ≡ past_end
  pub list :
      (old : List ℕ) (lent : ℕ → List ℕ) → 4 * n ≤ length old → ((i : ℕ) → i < n → 4 ≤ length (lent i))
      → left old ≡ lists_joined (λ i. take 4 (left_by i (lent i))) n ++ drop (4 * n) old

-- of the calls on figures, by what they answer in a slice of so many numbers and the arrangement's stretches
abbrev pub FiguresInTurn : (ℕ → Answer) → (ℕ → ℕ → Answer) → (ℕ → Stretch) → ℕ → Type 0
FiguresInTurn made one S n =
    AllInTurn value (refused 12) made (λ old. made_slice (made (length old)) S old) one (λ i old. segment_slice (one i (length old)) S i old) n
