-- A segment as four numbers.
use Rattle.std.specs.Prelude.{ℕ, List, [], ◌∷◌}
use Rattle.written_segments.specs.declared.Segment.{Segment}

-- the four numbers of a segment
abbrev pub numbers : Segment → List ℕ
numbers s = s.start ∷ s.end ∷ s.from ∷ s.to ∷ []
