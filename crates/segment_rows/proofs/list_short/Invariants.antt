use Prim.Native.Nat.{◌+◌, ◌*◌, ◌≤◌}
use mathlib.Core.Path.{◌≡◌}
use lib.ListN.{take}
use Rattle.digit_rows.specs.Loosely.{Loose}
use Rattle.plain_rows.specs.Rows.{rows_of}
use Rattle.segment_rows.proofs.list_short.Given as goal

abbrev pub invariant-loop-segment : goal.invariant-loop-segment
invariant-loop-segment l = record {
  loose : Loose 6 l.initial.out (rows_of l.heading.item l.heading.code (take l.segment-index l.front)) l.out;
  place : l.out.at ≤ l.initial.out.at + 66 * l.segment-index;
  item : l.rows.item.number ≡ l.heading.item;
  code : l.rows.code.number ≡ l.heading.code;
}
