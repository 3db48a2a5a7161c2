use Rattle.digit_rows.proofs.Spoiled.{exact}
use Rattle.digit_rows.proofs.Rows.put.Goals as goal

pub returns-clause-loose : goal.returns-clause-loose
returns-clause-loose c = exact 6 c.put_segment.ensures.wrote
