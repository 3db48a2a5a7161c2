-- Document 02, A11: the segments of all indexes in turn, of an item whose count is answered.
use Prim.Native.Nat.{ℕ, ◌<◌}
use mathlib.Core.Path.{◌≡◌, ap}
use native.Mathlib.Omega.{arith}
use Rattle.answer_codes.specs.Codes.{refusal_code, answer_code}
use Rattle.item_answers.specs.Calls.{of_item, segment_count_code}
use Rattle.item_answers.specs.InTurn.{ItemInTurn}
use Rattle.pairs.specs.Pairs.{Answer, accepted, refused}
use Rattle.roof_arrangements.proofs.InTurn.{accepted_in_turn}
use Rattle.sheet_figures.specs.Find.{AtIndex, at_site, at_roof}
use Rattle.standard.specs.Answers as figures

-- a number below 0x_8000_0000 is no refusal
no_refusal : (number item n : ℕ) → refusal_code number item ≡ n → n < 2147483648 → ⊥
unfolding refusal_code
no_refusal number item n e lt = omega (arith, e)

value_in : (item n : ℕ) (a : figures.Answer) → answer_code (of_item item a) ≡ n → n < 2147483648 → a ≡ figures.value n
value_in item n (figures.value k) e lt = ap figures.value e
value_in item n (figures.refused number) e lt = absurd (no_refusal number item n e lt)

pub item_in_turn : (found : Answer AtIndex) (item code n : ℕ) → segment_count_code found item code ≡ n → n < 2147483648 → ItemInTurn found item code n
item_in_turn (accepted (at_roof f)) item code n e lt =
    let t = accepted_in_turn f.national f.site f.roof code n (value_in item n _ e lt) in
    record {
      maker = λ room fits. ap (λ (a : figures.Answer). answer_code (of_item item a)) (t.maker room fits);
      each = λ i room below fits. ap (λ (a : figures.Answer). answer_code (of_item item a)) (t.each i room below fits);
      past = λ i room above. ap (λ (a : figures.Answer). answer_code (of_item item a)) (t.past i room above);
      list = t.list;
    }
item_in_turn (accepted (at_site n s)) item code k e lt = absurd (no_refusal 13 item k e lt)
item_in_turn (refused number at) item code n e lt = absurd (no_refusal number at n e lt)
