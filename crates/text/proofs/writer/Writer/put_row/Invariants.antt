use Prim.Native.Nat.{◌+◌, ◌*◌, ◌≤◌}
use lib.ListN.{take}
use Rattle.text.specs.Text.{fields}
use Rattle.text.specs.Written.{Wrote}
use Rattle.text.proofs.writer.Writer.put_row.Given as goal

abbrev pub invariant-loop-number : goal.invariant-loop-number
invariant-loop-number g l = record {
  wrote : Wrote l.initial.self (fields (take l.number-index l.number-items)) l.self;
  place : l.self.at ≤ l.initial.self.at + 11 * l.number-index;
}
