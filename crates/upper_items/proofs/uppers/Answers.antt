use Prim.Native.Nat.{ℕ}
use mathlib.Core.List.{List}
use mathlib.Core.Path.{ap, ◌∙◌}
use Rattle.items.specs.Items.{content}
use Rattle.upper_items.specs.Uppers.{upper_index}
use Rattle.upper_items.proofs.Lowers.{filled_none, filled_turn}
use native.Mathlib.Omega.{arith}
use Rattle.upper_items.proofs.uppers.Goals as goal

pub loop-i-init : goal.loop-i-init
loop-i-init c = filled_none _

pub loop-i-preserved : goal.loop-i-preserved
loop-i-preserved c =
    let e = c.upper_index.ensures ∙ ap (λ (p : List ℕ). upper_index (content p)) c.part.ensures in
    filled_turn c.loop-i.invariant (omega arith) e
