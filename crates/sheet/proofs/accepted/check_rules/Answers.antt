use mathlib.Core.Path.{sym, ap, ◌∙◌}
use Rattle.pairs.specs.Pairs.{verdict_means}
use Rattle.sheet.proofs.Kept.{first_site}
use Rattle.sheet.proofs.accepted.check_rules.Goals as goal

pub uppers_verdict-requires : goal.uppers_verdict-requires
uppers_verdict-requires c = first_site _ _ _ _ c.requires (sym c.check_items.ensures ∙ ap verdict_means c.in_ok-check_items.was)
