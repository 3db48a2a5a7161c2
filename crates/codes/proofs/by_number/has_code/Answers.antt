use Rattle.codes.proofs.NoKind.{none_exists}
use Rattle.codes.proofs.by_number.has_code.Goals as goal

pub returns-in-Err : goal.returns-in-Err
returns-in-Err c = none_exists _ _ _ _ c.in-Err.ensures.1
