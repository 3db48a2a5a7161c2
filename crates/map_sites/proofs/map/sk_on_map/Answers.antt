use native.Mathlib.Omega.{arith}
use Rattle.map_sites.proofs.Kept.{map_kept, load_most}
use Rattle.map_sites.proofs.map.sk_on_map.Goals as goal

pub table_load-requires : goal.table_load-requires
table_load-requires c = (map_kept _ _ _ c.requires).0

pub overflow_cast-result : goal.overflow_cast-result
overflow_cast-result c = omega (arith, load_most _ _ _ c.requires, c.table_load.ensures)
