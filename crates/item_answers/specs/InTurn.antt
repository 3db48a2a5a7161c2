-- Document 02, A11: what "All indexes in turn give the list that the large slice would hold" means of the calls on an item.
use Rattle.std.specs.Prelude.{ℕ}
use Rattle.answer_codes.specs.Codes.{refusal_code}
use Rattle.item_answers.specs.Calls.{make_code, slice_after, segment_code, segment_after}
use Rattle.pairs.specs.Pairs.{Answer}
use Rattle.roof_arrangements.specs.InTurn.{AllInTurn}
use Rattle.sheet_figures.specs.Find.{AtIndex}

-- of an item's arrangement with n segments, by what was found; answers are numbers of 32 bits
abbrev pub ItemInTurn : Answer AtIndex → ℕ → ℕ → ℕ → Type 0
ItemInTurn found item code n =
    AllInTurn (λ k. k) (refusal_code 12 item) (make_code found item code) (slice_after found item code) (segment_code found item code) (segment_after found item code) n
