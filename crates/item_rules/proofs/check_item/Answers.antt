use Prim.Native.Nat.{ℕ, suc, ◌-◌}
use mathlib.Core.Path.{◌≡◌, subst, sym}
use native.Mathlib.Omega.{arith}
use Rattle.figures.specs.Refusal.{number_in}
use Rattle.item_rules.specs.Rules.{rule_of}
use Rattle.item_rules.proofs.check_item.Goals as goal

pub returns : goal.returns
returns c =
    let later : c.args.index ≡ suc (c.args.index - 1) = omega arith in
    subst (λ (i : ℕ). number_in c.check_later.result ≡ rule_of c.args.store.numbers.now i c.args.p.now) (sym later)
    (c.check_later.ensures c.args.store.numbers.now (c.args.index - 1))
