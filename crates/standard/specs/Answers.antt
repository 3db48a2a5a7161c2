-- What the calls on figures answer: a value, or the number of the first broken rule.
use Rattle.std.specs.Prelude.{ℕ, ◌*◌, cond, List, ◌++◌, drop, leb, ltb, eqb, Result, Ok, Err}
use Rattle.figures.specs.Refusal.{number_of}
use Rattle.figures.specs.Refusals.{figures_refusal}
use Rattle.figures.specs.Store.{figures_in_use}
use Rattle.figures.specs.declared.refusal.Refusal.{Refusal}
use Rattle.figures.specs.declared.site.Site.{Site}
use Rattle.figures.specs.declared.roof.Roof.{Roof}
use Rattle.standard.specs.Arrangements.{exists, count, end_of, load_at}
use Rattle.standard.specs.Stretch.{Stretch, segment, segments}
use Rattle.standard.specs.Units.{parts}
use Rattle.figures.specs.declared.national.National.{National}

pub data Answer : Type 0 where
  value : ℕ → Answer
  refused : ℕ → Answer

-- what a call's result says by the documents' numbers
abbrev pub result_means : Result ℕ Refusal → Answer
result_means (Ok n) = value n
result_means (Err refusal) = refused (number_of refusal)

-- "A call with figures instead of a sheet checks the site, then the roof, then 13", and the store before them (document 02, A8): what is
-- answered after the rules on the store and the figures
unfoldable pub after_rules : List ℕ → Site → Roof → Answer → Answer
after_rules store site roof next = cond (eqb (figures_refusal store site roof) 0) next (refused (figures_refusal store site roof))

-- what is answered after 13
unfoldable pub after_code : Site → Roof → ℕ → Answer → Answer
after_code site roof code next = cond (exists site roof code) next (refused 13)

-- the national figures that a site's job uses
abbrev pub national_for : List ℕ → Site → National
national_for store site = figures_in_use store site.day

-- the number of segments; "11 slice shorter than four numbers for each segment"
unfoldable pub room_answer : National → Roof → ℕ → ℕ → Answer
room_answer national roof code room = cond (leb (4 * count national roof code) room) (value (count national roof code)) (refused 11)

-- for accepted figures, and for any
unfoldable pub make_in : National → Site → Roof → ℕ → ℕ → Answer
make_in national site roof code room = after_code site roof code (room_answer national roof code room)

unfoldable pub make_answer : List ℕ → Site → Roof → ℕ → ℕ → Answer
make_answer store site roof code room = after_rules store site roof (make_in (national_for store site) site roof code room)

-- the slice after an answer: "that arrangement's segments at its front and its old contents behind them; after a refusal its old contents
-- throughout" (demand 1)
abbrev pub made_slice : Answer → (ℕ → Stretch) → List ℕ → List ℕ
made_slice (value n) S old = segments parts S n ++ drop (4 * n) old
made_slice (refused number) S old = old

-- "one segment by its index, with the number of segments known beforehand" (document 02, A11): the number, which 13 alone refuses
unfoldable pub segment_count_in : National → Site → Roof → ℕ → Answer
segment_count_in national site roof code = after_code site roof code (value (count national roof code))

unfoldable pub segment_count_answer : List ℕ → Site → Roof → ℕ → Answer
segment_count_answer store site roof code = after_rules store site roof (segment_count_in (national_for store site) site roof code)

-- how many numbers one segment has; "12 when the index is not below that number, after 13 and before 11. In this call number 11 means a
-- slice under four numbers"
unfoldable pub index_answer : National → Roof → ℕ → ℕ → ℕ → Answer
index_answer national roof code i room = cond (ltb i (count national roof code)) (cond (leb 4 room) (value 4) (refused 11)) (refused 12)

-- for accepted figures, and for any
unfoldable pub segment_in : National → Site → Roof → ℕ → ℕ → ℕ → Answer
segment_in national site roof code i room = after_code site roof code (index_answer national roof code i room)

unfoldable pub segment_answer : List ℕ → Site → Roof → ℕ → ℕ → ℕ → Answer
segment_answer store site roof code i room = after_rules store site roof (segment_in (national_for store site) site roof code i room)

-- the slice after it: the segment at its front, "and numbers behind the four keep their old contents"
abbrev pub segment_slice : Answer → (ℕ → Stretch) → ℕ → List ℕ → List ℕ
segment_slice (value n) S i old = segment parts S i ++ drop n old
segment_slice (refused number) S i old = old

-- the load read; "12 position past the roof's end"
unfoldable pub station_answer : National → Site → Roof → ℕ → ℕ → Answer
station_answer national site roof code p = cond (leb p (end_of roof)) (value (load_at national site roof code p)) (refused 12)

-- for accepted figures, and for any
unfoldable pub load_in : National → Site → Roof → ℕ → ℕ → Answer
load_in national site roof code p = after_code site roof code (station_answer national site roof code p)

unfoldable pub load_answer : List ℕ → Site → Roof → ℕ → ℕ → Answer
load_answer store site roof code p = after_rules store site roof (load_in (national_for store site) site roof code p)
