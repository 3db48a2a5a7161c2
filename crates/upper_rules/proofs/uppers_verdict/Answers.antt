use mathlib.Core.Path.{sym, ap, ◌∙◌}
use Rattle.pairs.specs.Pairs.{verdict_means}
use Rattle.upper_rules.proofs.Passed.{uppers_circles}
use Rattle.upper_rules.proofs.uppers_verdict.Goals as goal

pub returns : goal.returns
returns c =
    let e = rw c.count-count.ensures.0 at c.check_circles.ensures in
    e ∙ uppers_circles _ _ c.uppers.result _ c.uppers.ensures (sym c.check_uppers.ensures ∙ ap verdict_means c.in_ok-check_uppers.was)
