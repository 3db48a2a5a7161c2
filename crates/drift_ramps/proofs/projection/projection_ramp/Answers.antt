use Rattle.standard.proofs.Projection.{projection_few}
use Rattle.drift_ramps.proofs.projection.projection_ramp.Goals as goal

pub row_index-j-requires : goal.row_index-j-requires
row_index-j-requires c = projection_few _ _ _ _ c.requires.1
