use borrow.Author.Tests.{ne_eqb}
use native.Mathlib.Omega.{arith}
use Rattle.sheet_figures.specs.Find.{sheet_national}
use Rattle.sheet_figures.proofs.found_in.Goals as goal

pub returns-then-i-eq0 : goal.returns-then-i-eq0
unfolding sheet_national
returns-then-i-eq0 c = rw (c.if-i-eq0.true, c.figures_for-national.ensures.figures, c.site_of-site.ensures.0)

pub roof_of-requires : goal.roof_of-requires
roof_of-requires c = (omega (arith, c.if-i-eq0.false), c.requires)

pub returns : goal.returns
unfolding sheet_national
returns c =
    rw (ne_eqb c.args.i 0 c.if-i-eq0.false, c.figures_for-national.ensures.figures, c.site_of-site.ensures.0, c.roof_of.ensures.0)
