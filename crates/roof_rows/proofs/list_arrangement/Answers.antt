use mathlib.Core.Path.{◌≡◌, ◌∙◌, ap, sym}
use Rattle.roof_rows.specs.Rows.{row_count}
use Rattle.roof_rows.proofs.Counts.{code_few}
use Rattle.roof_rows.proofs.Lines.{rows_are, written_rows}
use Rattle.text.proofs.Writing.{wrote_as}
use Rattle.segment_rows.specs.Rows.{slice_rows}
use Rattle.segment_rows.proofs.Fronts.{front_count, front_rows}
use native.Mathlib.Omega.{arith}
use Rattle.roof_rows.proofs.list_arrangement.Goals as goal
use Rattle.roof_rows.proofs.list_arrangement.Goals.{After-count}

counted :
    (c : After-count)
    → c.count.result ≡ row_count c.args.arrangement.figures.now.national c.args.arrangement.figures.now.site c.args.arrangement.figures.now.roof c.args.arrangement.code
counted c = rows_are _ _ _ 0 _ _ c.requires.found c.count.ensures.0

pub write-requires : goal.write-requires
write-requires c =
    let f = c.args.arrangement.figures.now in
    omega (arith, code_few f.national f.site f.roof f.accepted c.args.arrangement.code)

pub list_segments-requires : goal.list_segments-requires
list_segments-requires c =
    omega (
      arith,
      front_count c.write.new.out c.count.result (omega arith),
      counted (goal.at.list_segments-requires c).After-count,
      c.requires.room,
    )

pub returns-clause-wrote : goal.returns-clause-wrote
returns-clause-wrote c =
    wrote_as c.list_segments.ensures.wrote
    (front_rows c.write.new.out c.args.item _ c.count.result (omega arith)
    ∙ (ap (λ (code : _). slice_rows c.write.new.out c.args.item code c.count.result) c.from.ensures
    ∙ written_rows _ _ _ c.args.item c.args.arrangement.code _ c.requires.found c.count.ensures.0 _ _ (rw (sym c.count.ensures.0) at c.write.ensures)))

pub returns-clause-upper_bound : goal.returns-clause-upper_bound
returns-clause-upper_bound c =
    omega (
      arith,
      front_count c.write.new.out c.count.result (omega arith),
      c.list_segments.ensures.upper_bound,
      counted (goal.at.returns-clause-upper_bound c).After-count,
    )
