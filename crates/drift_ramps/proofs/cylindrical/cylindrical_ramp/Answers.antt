use Rattle.standard.proofs.Cylindrical.{arch_few}
use Rattle.drift_ramps.proofs.cylindrical.cylindrical_ramp.Goals as goal

pub row_index-j-requires : goal.row_index-j-requires
row_index-j-requires c = arch_few _ _ _ _ c.requires.2
