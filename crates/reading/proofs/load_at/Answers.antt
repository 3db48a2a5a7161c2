use Rattle.std.proofs.Common.{rules}
use Rattle.standard.specs.Answers.{load_answer, after_rules}
use Rattle.roof_readings.proofs.Stations.{near_answer}
use Rattle.reading.proofs.load_at.Goals as goal

pub returns-clause-distance : goal.returns-clause-distance
unfolding load_answer after_rules
returns-clause-distance c = near_answer c.args.store.now c.args.site c.args.roof c.args.code c.args.station _ (search rules)
