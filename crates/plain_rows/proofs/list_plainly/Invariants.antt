use Prim.Native.Nat.{◌+◌, ◌*◌, ◌≤◌}
use lib.ListN.{take}
use Rattle.plain_rows.specs.Rows.{rows_of}
use Rattle.text.specs.Written.{Wrote}
use Rattle.plain_rows.proofs.list_plainly.Given as goal

abbrev pub invariant-loop-segment : goal.invariant-loop-segment
invariant-loop-segment l = record {
  wrote : Wrote l.initial.out (rows_of l.heading.item l.heading.code (take l.segment-index l.segments)) l.out;
  place : l.out.at ≤ l.initial.out.at + 66 * l.segment-index;
}
