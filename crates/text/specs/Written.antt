-- What a write leaves in lent bytes.
use Rattle.std.specs.Prelude.{ℕ, ◌+◌, List, ◌≡◌, length}
use Rattle.std.proofs.lemmas.List.Edits.{sets}
use Rattle.text.specs.declared.writer.Writer.{Writer}

-- text was written at the writer's place, which moved behind it; every other byte is as it was, and the bytes are those that were lent
pub record Wrote (before : Writer) (text : List ℕ) (after : Writer) : Type 0 where
  pub bytes : after.bytes.now ≡ sets before.bytes.now before.at text
  pub end : after.at ≡ before.at + length text
  pub same : after.bytes.ghost_name ≡ before.bytes.ghost_name
