-- What the calls for the terminals' firmware answer, as numbers of 32 bits, and what they leave in a lent slice.
use Rattle.std.specs.Prelude.{ℕ, List, length, Option, Some, None}
use Rattle.answer_codes.specs.Codes.{answer_code, force_code}
use Rattle.figures.specs.Slopes.{slope_at}
use Rattle.pairs.specs.Pairs.{Answer, accepted, refused}
use Rattle.sheet_figures.specs.Find.{Figures, AtIndex, at_site, at_roof}
use Rattle.standard.specs.Answers as figures
use Rattle.standard.specs.Answers.{make_in, made_slice, segment_count_in, segment_in, segment_slice, load_in}
use Rattle.standard.specs.Arrangements.{stretch}
use Rattle.standard.specs.Forces as forces
use Rattle.standard.specs.Stretch.{Stretch}

-- an answer on figures, of the item that they are of
abbrev pub of_item : ℕ → figures.Answer → Answer ℕ
of_item item (figures.value n) = accepted n
of_item item (figures.refused number) = refused number item

abbrev pub force_of_item : ℕ → forces.Force → Answer (Option ℕ)
force_of_item item (forces.force newtons) = accepted (Some newtons)
force_of_item item forces.none = accepted None
force_of_item item (forces.refused number) = refused number item

-- the roof that was found, for a call on an arrangement; the site has none, as the header has it: 13
abbrev pub roof_found : Answer AtIndex → ℕ → Answer Figures
roof_found (accepted (at_roof f)) item = accepted f
roof_found (accepted (at_site n s)) item = refused 13 item
roof_found (refused number at) item = refused number at

-- the call's answer: the roof's figures are accepted, so "then 13, then 11 or 12"
abbrev pub of_roof : Answer Figures → ℕ → (Figures → figures.Answer) → Answer ℕ
of_roof (accepted f) item call = of_item item (call f)
of_roof (refused number at) item call = refused number at

-- the slice after such a call: of a roof what the call leaves, otherwise its old contents
abbrev pub roof_slice : Answer Figures → (Figures → List ℕ) → List ℕ → List ℕ
roof_slice (accepted f) left old = left f
roof_slice (refused number at) left old = old

-- the stretches of the arrangement of a code
abbrev pub stretches : Figures → ℕ → ℕ → Stretch
stretches f code = stretch f.national f.site f.roof code

-- making an arrangement, and the slice after it
abbrev pub make_by : Answer AtIndex → ℕ → ℕ → ℕ → Answer ℕ
make_by found item code room = of_roof (roof_found found item) item (λ f. make_in f.national f.site f.roof code room)

abbrev pub make_code : Answer AtIndex → ℕ → ℕ → ℕ → ℕ
make_code found item code room = answer_code (make_by found item code room)

abbrev pub slice_after : Answer AtIndex → ℕ → ℕ → List ℕ → List ℕ
slice_after found item code old =
    roof_slice (roof_found found item) (λ f. made_slice (make_in f.national f.site f.roof code (length old)) (stretches f code) old) old

-- document 02, A11: the number of segments of an item's arrangement, and one of them by its index
abbrev pub segment_count_by : Answer AtIndex → ℕ → ℕ → Answer ℕ
segment_count_by found item code = of_roof (roof_found found item) item (λ f. segment_count_in f.national f.site f.roof code)

abbrev pub segment_count_code : Answer AtIndex → ℕ → ℕ → ℕ
segment_count_code found item code = answer_code (segment_count_by found item code)

abbrev pub segment_by : Answer AtIndex → ℕ → ℕ → ℕ → ℕ → Answer ℕ
segment_by found item code index room = of_roof (roof_found found item) item (λ f. segment_in f.national f.site f.roof code index room)

abbrev pub segment_code : Answer AtIndex → ℕ → ℕ → ℕ → ℕ → ℕ
segment_code found item code index room = answer_code (segment_by found item code index room)

abbrev pub segment_after : Answer AtIndex → ℕ → ℕ → ℕ → List ℕ → List ℕ
segment_after found item code index old =
    roof_slice (roof_found found item) (λ f. segment_slice (segment_in f.national f.site f.roof code index (length old)) (stretches f code) index old) old

-- reading a load
abbrev pub load_by : Answer AtIndex → ℕ → ℕ → ℕ → Answer ℕ
load_by found item code station = of_roof (roof_found found item) item (λ f. load_in f.national f.site f.roof code station)

abbrev pub load_code : Answer AtIndex → ℕ → ℕ → ℕ → ℕ
load_code found item code station = answer_code (load_by found item code station)

-- the site has no local forces, as the header has it: "none"
abbrev pub overhang_by : Answer AtIndex → ℕ → ℕ → Answer (Option ℕ)
overhang_by (accepted (at_roof f)) item slope = force_of_item item (forces.overhang_at f.site f.roof.shape slope)
overhang_by (accepted (at_site n s)) item slope = accepted None
overhang_by (refused number at) item slope = refused number at

abbrev pub overhang_code : Answer AtIndex → ℕ → ℕ → ℕ
overhang_code found item slope = force_code (overhang_by found item slope)

abbrev pub guard_by : Answer AtIndex → ℕ → ℕ → Answer (Option ℕ)
guard_by (accepted (at_roof f)) item slope = force_of_item item (forces.guard_at f.site (slope_at f.roof.shape slope))
guard_by (accepted (at_site n s)) item slope = accepted None
guard_by (refused number at) item slope = refused number at

abbrev pub guard_code : Answer AtIndex → ℕ → ℕ → ℕ
guard_code found item slope = force_code (guard_by found item slope)
