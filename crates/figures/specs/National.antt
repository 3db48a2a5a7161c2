-- The nationally determined figures: those that the standard recommends, and the ranges of a set (document 02, A8).
use Rattle.std.specs.Prelude.{Bool, ◌&&◌, leb}
use Rattle.figures.specs.Ranges.{within}
use Rattle.figures.specs.declared.national.National.{National}

-- the recommended upper value of μ3 (5.3.5), range of μw and range of drift lengths (5.3.6)
abbrev pub recommended_figures : National
recommended_figures = record { arch = 200; low = 80; high = 400; short = 5000; long = 15000 }

-- "the upper value of μ3, the range of μw (all in hundredths, 1..800) and the range of drift lengths (1,000..30,000 mm)";
-- no low above its high
abbrev pub figures_sound : National → Bool
figures_sound n =
    within 1 800 n.arch && within 1 800 n.low && within 1 800 n.high && leb n.low n.high
    && within 1000 30000 n.short && within 1000 30000 n.long && leb n.short n.long
