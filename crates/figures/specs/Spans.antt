-- The slopes and valleys of a multi-span roof by their numbers.
use Rattle.std.specs.Prelude.{ℕ, replicate, slice_index_or}
use Rattle.figures.specs.declared.slopes.Slope.{Slope}
use Rattle.figures.specs.declared.slopes.Valley.{Valley}
use Rattle.figures.specs.declared.slopes.Spans.{Spans}

abbrev pub flat : Slope
flat = record { pitch = 0; width = 0 }

abbrev pub level : Valley
level = record { h = 0; b3 = 0 }

-- the spans of a roof that is not multi-span: zeros, which no rule reads
abbrev pub no_spans : Spans
no_spans = record { slopes = replicate 32 flat; valleys = replicate 15 level }

-- slope i of a multi-span roof, from 0 at the left; span i has slopes 2i and 2i + 1
unfoldable pub slope_of : Spans → ℕ → Slope
slope_of spans i = slice_index_or spans.slopes i flat

-- valley j of a multi-span roof, from 0 at the left
unfoldable pub valley_of : Spans → ℕ → Valley
valley_of spans j = slice_index_or spans.valleys j level
