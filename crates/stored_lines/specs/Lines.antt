-- What is so of lines that are read.
use Rattle.std.specs.Prelude.{◌≡◌, None}
use Rattle.figures.specs.Spans.{no_spans}
use Rattle.figures.specs.declared.roof.Shape.{Shape}
use Rattle.figures.specs.declared.roof.Shape.TheVariants.{MultiSpan}
use Rattle.figures.specs.declared.slopes.Spans.{Spans}
use Rattle.stored_lines.specs.declared.line.Line.{Line}
use Rattle.stored_lines.specs.declared.line.Line.TheVariants.{Set, Site, Job, Compare, Case}

-- only a multi-span roof has spans
abbrev pub SpansFit : Shape → Spans → Type 0
SpansFit (MultiSpan count drifts) spans = Unit {0}
SpansFit shape spans = spans ≡ no_spans

-- a roof that a line compares or asks about has such spans
abbrev pub LineFits : Line → Type 0
LineFits (Compare roof) = SpansFit roof.shape roof.spans
LineFits (Case asked) = SpansFit asked.roof.shape asked.roof.spans
LineFits line = Unit {0}

-- a set, a site without a day or a job
abbrev pub IsGiven : Line → Type 0
IsGiven (Set numbers) = Unit {0}
IsGiven (Site site) = site.day ≡ None
IsGiven (Job job) = Unit {0}
IsGiven line = ⊥
