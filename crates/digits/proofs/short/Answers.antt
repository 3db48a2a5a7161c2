use Prim.Native.Nat.{ℕ, ◌*◌, ◌/◌, ◌-◌, ◌^◌}
use mathlib.Core.Path.{ap, ◌∙◌}
use Rattle.digits.specs.Words.{bytes_of}
use Rattle.digits.proofs.Shifted.{shifted_four}
use Rattle.digits.proofs.short.Goals as goal

pub invariant_of-result-clause-text : goal.invariant_of-result-clause-text
invariant_of-result-clause-text c =
    ap (λ (w : ℕ). bytes_of c.count-len.result (w / 2 ^ (8 * (4 - c.count-len.result)))) c.four.ensures.0
    ∙ shifted_four c.args.number c.count-len.result c.requires c.count-len.ensures.value c.count-len.ensures.bounds.1
