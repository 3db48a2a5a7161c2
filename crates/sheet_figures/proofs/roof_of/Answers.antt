use Rattle.ceilings.specs.Ceilings.{terminals}
use Rattle.sheet.proofs.Kept.{accepted_is}
use Rattle.sheet.specs.Sheet.{ItemOf}
use Rattle.sheet_figures.proofs.roof_of.Goals as goal
use Rattle.sheet_figures.proofs.roof_of.Goals.{After-bytes}

one_of : (c : After-bytes) → ItemOf c.args.sheet.items.sheet.now c.args.i
one_of c =
    record {
      store = c.args.sheet.store.numbers.now;
      ceiling = terminals;
      items = c.args.sheet.items.count;
      verdict = accepted_is _ _ c.args.sheet.accepted;
      below = c.requires.1;
    }

pub roof_in-requires : goal.roof_in-requires
roof_in-requires c = (rw c.bytes.ensures (one_of (goal.at.roof_in-requires c).After-bytes), c.requires.0)

pub returns : goal.returns
returns c = rw c.bytes.ensures at c.roof_in.ensures
