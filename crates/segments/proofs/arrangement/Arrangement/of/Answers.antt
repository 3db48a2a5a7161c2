use Rattle.figures.proofs.Accepted.{site_in}
use Rattle.standard.specs.Arrangements.{count}
use Rattle.segments.proofs.Grounds.{grounded}
use Rattle.segments.proofs.arrangement.Arrangement.of.Goals as goal

pub factor-requires : goal.factor-requires
factor-requires c = site_in _ c.args.figures.now.accepted.site

pub invariant_of-ground : goal.invariant_of-ground
invariant_of-ground c =
    record { in_range = rw c.from.ensures (grounded _ _ c.args.figures.now.accepted.site c.factor.ensures.1) }

pub invariant_of-result : goal.invariant_of-result
unfolding count
invariant_of-result c =
    record {
      arranged =
          record {
            code_is = c.base_code-persistent.ensures;
            factor_is = c.factor.ensures.0;
            sk_is = c.from.ensures;
            count_is = rw c.base_code-persistent.ensures at c.count_in.ensures.0;
          };
    }
