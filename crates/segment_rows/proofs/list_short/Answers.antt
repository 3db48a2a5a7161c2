use mathlib.Core.Path.{◌≡◌, ap, sym, ◌∙◌}
use mathlib.Core.List.{[], ◌∷◌}
use Prim.Native.Nat.{ℕ, ◌≤◌}
use Rattle.digits.specs.declared.Digits.{Digits}
use lib.ListN.{length, get_or, take}
use lib.Seq.{take-length}
use native.Mathlib.Omega.{arith}
use Rattle.text.specs.Text.{row}
use Rattle.text.proofs.Writing.{wrote_as}
use Rattle.digit_rows.proofs.Spoiled.{loosely, loose_as, finish, row_covers}
use Rattle.plain_rows.specs.Rows.{rows_of}
use Rattle.plain_rows.proofs.Segments.{rows_more, rows_append}
use Rattle.segment_rows.proofs.list_short.Goals as goal

pub loop-segment-preserved : goal.loop-segment-preserved
loop-segment-preserved c =
    let l = c.loop-segment in
    let segment = get_or c.args.front.now l.segment-index [] in
    let named = ap (λ (i : ℕ). row (i ∷ l.rows.code.number ∷ segment)) l.invariant.item ∙ ap (λ (k : ℕ). row (c.args.heading.item ∷ k ∷ segment)) l.invariant.code in
    let more = rows_more c.args.heading.item c.args.heading.code c.args.front.now l.segment-index c.loop-segment-test.true in
    record {
      loose = loose_as (loosely 6 l.invariant.loose (loose_as c.put.ensures.loose named) (omega arith)) more;
      place = omega arith;
      item = ap (λ (d : Digits). d.number) c.put.ensures.same.0 ∙ l.invariant.item;
      code = ap (λ (d : Digits). d.number) c.put.ensures.same.1 ∙ l.invariant.code;
    }

pub returns-clause-wrote : goal.returns-clause-wrote
returns-clause-wrote c =
    let front = c.args.front.now in
    let e : c.loop-segment.segment-index ≡ length front = omega arith in
    let all = ap (λ (i : ℕ). rows_of c.args.heading.item c.args.heading.code (take i front)) e ∙ ap (rows_of c.args.heading.item c.args.heading.code) (take-length front) in
    let covers : 6 ≤ length (row (c.args.heading.item ∷ c.args.heading.code ∷ c.args.last.now)) =
    omega (arith, row_covers (c.args.heading.item ∷ c.args.heading.code ∷ c.args.last.now), c.told-last) in
    wrote_as (finish 6 (loose_as c.loop-segment.invariant.loose all) c.put_segment.ensures.wrote covers)
    (sym (rows_append c.args.heading.item c.args.heading.code front c.args.last.now))
