use Prim.Native.Nat.{ℕ, ◌+◌, ◌*◌, ◌/◌, ◌-◌, ◌^◌}
use mathlib.Core.Path.{ap, ◌∙◌}
use Rattle.digits.specs.Words.{bytes_of, pack, padded}
use Rattle.digits.proofs.Shifted.{eight_word, shifted_eight}
use Rattle.digits.proofs.long.Goals as goal

pub invariant_of-result-clause-text : goal.invariant_of-result-clause-text
invariant_of-result-clause-text c =
    let high = ap (λ (w : ℕ). w + 4294967296 * c.four-2.result) c.four.ensures.0 in
    let low = ap (λ (w : ℕ). pack (padded 4 (c.args.number / 10000)) + 4294967296 * w) c.four-2.ensures.0 in
    ap (λ (w : ℕ). bytes_of (c.count-len.result + 4) (w / 2 ^ (8 * (4 - c.count-len.result)))) (high ∙ (low ∙ eight_word c.args.number))
    ∙ shifted_eight c.args.number c.count-len.result c.requires.0 c.requires.1 c.count-len.ensures.value c.count-len.ensures.bounds.1
