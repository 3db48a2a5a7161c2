use Prim.Native.Nat.{◌+◌, ◌-◌, ◌≤◌}
use mathlib.Core.Path.{◌≡◌, sym, ◌∙◌}
use Rattle.figures.specs.RoofRules.{kind_of, drifts_of}
use Rattle.roof_rows.proofs.Counts.{drifts_few, rows_within, last_low, rows_before, rows_past}
use Rattle.roof_rows.proofs.Lines.{next_rows, next_count}
use Rattle.standard.specs.Codes.{highest_code, first_code, last_code}
use Rattle.standard.proofs.Codes.{first_in}
use Rattle.text.proofs.Writing.{then, none, room, wrote_as}
use native.Mathlib.Omega.{arith}
use Rattle.roof_rows.proofs.list_codes.Goals as goal
use Rattle.roof_rows.proofs.list_codes.Goals.{After-first-code, After-last-code-end}

first_is : (c : After-first-code) → c.first-code.result ≡ first_code (kind_of c.args.figures.now.roof.shape)
first_is c = rw c.of-codes.ensures.0 at c.first-code.ensures

first_some : (c : After-first-code) → 1 ≤ c.first-code.result
first_some c = let in_range = first_in (kind_of c.args.figures.now.roof.shape) in omega (arith, first_is c, in_range.low)

last_is :
    (c : After-last-code-end)
    → c.last-code-end.result ≡ last_code (kind_of c.args.figures.now.roof.shape) c.args.figures.now.site.situation (drifts_of c.args.figures.now.roof.shape)
last_is c = rw (c.of-codes.ensures.0, c.of-codes.ensures.1, c.of-codes.ensures.2) at c.last-code-end.ensures

last_in : (c : After-last-code-end) → c.last-code-end.result ≤ highest_code
last_in c = let f = c.args.figures.now in rw (last_is c) (last_low f.national f.site f.roof f.accepted)

pub last-code-end-requires : goal.last-code-end-requires
last-code-end-requires c = let f = c.args.figures.now in rw c.of-codes.ensures.2 (drifts_few f.national f.site f.roof f.accepted)

pub loop-code-init : goal.loop-code-init
loop-code-init c =
    let f = c.args.figures.now in
    let first = first_is (goal.at.loop-code-init c).After-first-code in
    let in_range = first_in (kind_of f.roof.shape) in (
      omega (arith, first, in_range.high),
      omega arith,
      wrote_as (none _)
          (sym (rows_before f.national f.site f.roof f.accepted c.args.item (c.first-code.result - 1) (omega (arith, first, in_range.low)))),
    )

pub list_code-requires-clause-room : goal.list_code-requires-clause-room
list_code-requires-clause-room c =
    let f = c.args.figures.now in
    let some = first_some (goal.at.list_code-requires-clause-room c).After-first-code in
    let low : c.loop-code.code ≤ highest_code = omega (arith, last_in (goal.at.list_code-requires-clause-room c).After-last-code-end) in
    omega (
      arith,
      next_count f.national f.site f.roof c.loop-code.code (omega (arith, some)),
      rows_within f.national f.site f.roof f.accepted c.loop-code.code low,
      c.loop-code.invariant.1,
      room c.loop-code.invariant.2,
    )

pub loop-code-preserved : goal.loop-code-preserved
loop-code-preserved c =
    let f = c.args.figures.now in
    let some = first_some (goal.at.loop-code-preserved c).After-first-code in
    let e : c.loop-code.code + 1 - 1 ≡ c.loop-code.code = omega arith in (
      omega (arith, last_in (goal.at.loop-code-preserved c).After-last-code-end),
      rw e
          (omega (arith, next_count f.national f.site f.roof c.loop-code.code (omega (arith, some)), c.list_code.ensures.upper_bound, c.loop-code.invariant.1)),
      rw e
          (wrote_as (then c.loop-code.invariant.2 c.list_code.ensures.wrote)
          (next_rows f.national f.site f.roof c.args.item c.loop-code.code (omega (arith, some)))),
    )

pub returns-clause-wrote : goal.returns-clause-wrote
returns-clause-wrote c =
    let f = c.args.figures.now in
    let some = first_some (goal.at.returns-clause-wrote c).After-first-code in
    let last = last_is (goal.at.returns-clause-wrote c).After-last-code-end in
    wrote_as c.loop-code.invariant.2
    (rows_past f.national f.site f.roof f.accepted c.args.item (c.loop-code.code - 1) (omega (arith, some, last)))

pub returns-clause-upper_bound : goal.returns-clause-upper_bound
returns-clause-upper_bound c =
    let f = c.args.figures.now in
    omega (
      arith,
      rows_within f.national f.site f.roof f.accepted (c.loop-code.code - 1) (omega (arith, c.loop-code.invariant.0)),
      c.loop-code.invariant.1,
    )

pub returns-2-clause-wrote : goal.returns-2-clause-wrote
returns-2-clause-wrote c =
    let f = c.args.figures.now in
    let some = first_some (goal.at.returns-2-clause-wrote c).After-first-code in
    let last = last_is (goal.at.returns-2-clause-wrote c).After-last-code-end in
    wrote_as (then c.loop-code.invariant.2 c.list_code.ensures.wrote)
    (next_rows f.national f.site f.roof c.args.item c.loop-code.code (omega (arith, some))
    ∙ rows_past f.national f.site f.roof f.accepted c.args.item c.loop-code.code (omega (arith, last)))

pub returns-2-clause-upper_bound : goal.returns-2-clause-upper_bound
returns-2-clause-upper_bound c =
    let f = c.args.figures.now in
    let some = first_some (goal.at.returns-2-clause-upper_bound c).After-first-code in
    let low : c.loop-code.code ≤ highest_code = omega (arith, last_in (goal.at.returns-2-clause-upper_bound c).After-last-code-end) in
    omega (
      arith,
      next_count f.national f.site f.roof c.loop-code.code (omega (arith, some)),
      rows_within f.national f.site f.roof f.accepted c.loop-code.code low,
      c.list_code.ensures.upper_bound,
      c.loop-code.invariant.1,
    )
