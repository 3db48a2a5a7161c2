use Rattle.obstructions.proofs.Rows.{row_in, few_in}
use Rattle.standard.specs.Obstruction.{obstruction_lengths}
use Rattle.obstructions.proofs.obstruction_ramp.Goals as goal

pub row_index-requires : goal.row_index-requires
row_index-requires c = few_in (obstruction_lengths c.args.by) c.args.i c.requires.2

pub row_ramp-requires : goal.row_ramp-requires
row_ramp-requires c =
    (c.requires.0, c.requires.1, row_in c.args.by _ c.args.i _ c.requires.0 c.lengths_of-lengths.ensures c.requires.2 c.row_index.ensures)
