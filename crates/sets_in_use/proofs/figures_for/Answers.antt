use mathlib.Core.Path.{◌≡◌}
use Rattle.std.proofs.Common.{rules}
use Rattle.figures.proofs.Stores.{in_use_in}
use Rattle.figures.specs.Store.{figures_in_use}
use Rattle.sets_in_use.proofs.figures_for.Goals as goal

pub returns-clause-ranges : goal.returns-clause-ranges
unfolding figures_in_use
returns-clause-ranges c =
    let e : c.unwrap_or_else.result ≡ figures_in_use c.args.store.numbers.now c.args.day = search rules in
    rw e (in_use_in _ _ c.args.store.accepted)
