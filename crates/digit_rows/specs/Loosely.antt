-- A write whose last bytes are still to be written over.
use Rattle.std.specs.Prelude.{ℕ, ◌+◌, ◌≤◌, ◌≡◌, List, ◌++◌, length}
use Rattle.std.proofs.lemmas.List.Edits.{sets}
use Rattle.text.specs.declared.writer.Writer.{Writer}

-- text was written at the writer's place, which moved behind it; some bytes there are spoiled: whatever of at least k bytes is written there next puts
-- it right
pub record Loose (k : ℕ) (before : Writer) (text : List ℕ) (after : Writer) : Type 0 where
  pub bytes : (next : List ℕ) → k ≤ length next → sets after.bytes.now after.at next ≡ sets before.bytes.now before.at (text ++ next)
  pub end : after.at ≡ before.at + length text
  pub size : length after.bytes.now ≡ length before.bytes.now
  pub same : after.bytes.ghost_name ≡ before.bytes.ghost_name
