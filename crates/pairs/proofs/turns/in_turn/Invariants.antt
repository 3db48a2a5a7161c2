use Rattle.std.proofs.Common.{◌≡◌, ℕ, ◌-◌, ◌≤◌, ◌<◌}
use Rattle.figures.specs.Refusal.{number_in}
use Rattle.pairs.specs.Pairs.{in_turn}
use Rattle.pairs.proofs.turns.in_turn.Given as goal

abbrev pub invariant-loop-i : goal.invariant-loop-i
invariant-loop-i g l =
    (number : ℕ → ℕ) → ((i : ℕ) (r : _) → l.first ≤ i → i < l.count → goal.F-post g l.check i r → number_in r ≡ number i)
    → in_turn number l.count l.first (l.count - l.first) ≡ in_turn number l.count l.i (l.count - l.i)
