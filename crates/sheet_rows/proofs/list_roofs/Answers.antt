use Prim.Native.Nat.{◌-◌}
use lib.ListN.{get_or}
use mathlib.Core.Path.{◌≡◌, ◌∙◌}
use Rattle.sheet.proofs.Kept.{accepted_is}
use Rattle.sheet_figures.specs.Find.{sheet_national}
use Rattle.sheet_figures.proofs.Sound.{some_items}
use Rattle.text.proofs.Writing.{then, none, room, wrote_as}
use Rattle.upper_items.specs.Uppers.{roof_order}
use Rattle.sheet_rows.specs.SheetRows.{roofs_rows}
use Rattle.sheet_rows.proofs.Accepted.{few_items, some_roof, roof_below, roof_in_table, next_roof_lem}
use native.Mathlib.Omega.{arith}
use Rattle.sheet_rows.proofs.list_roofs.Goals as goal
use Rattle.sheet_rows.proofs.list_roofs.Goals.{After-figures_for-national, In-loop-k}

here : (c : In-loop-k) → get_or c.roof_order-roofs.result c.loop-k.k 0 ≡ get_or (roof_order c.args.sheet.items.sheet.now c.args.sheet.items.count) c.loop-k.k 0
here c = roof_in_table _ _ _ c.args.sheet.accepted _ (omega arith) _ c.roof_order-roofs.ensures

used : (c : After-figures_for-national) → c.figures_for-national.result ≡ sheet_national c.args.sheet.store.numbers.now c.args.sheet.items.sheet.now
unfolding sheet_national
used c = rw (c.figures_for-national.ensures.figures, c.site_of-site.ensures.0)

pub overflow_sub-k-end : goal.overflow_sub-k-end
overflow_sub-k-end c = omega (arith, some_items _ _ _ _ (accepted_is _ _ c.args.sheet.accepted))

pub loop-k-init : goal.loop-k-init
unfolding roofs_rows
loop-k-init c = (none _, omega arith)

pub roof_of-roof-requires : goal.roof_of-roof-requires
roof_of-roof-requires c =
    let e = here (goal.at.roof_of-roof-requires c).In-loop-k in
    let some = some_roof _ _ _ c.args.sheet.accepted c.loop-k.k (omega arith) in
    let below = roof_below _ _ _ c.args.sheet.accepted c.loop-k.k (omega arith) in
    (omega (arith, e, some), omega (arith, e, below))

pub list_roof-requires : goal.list_roof-requires
list_roof-requires c =
    omega (arith, c.loop-k.invariant.1, room c.loop-k.invariant.0, few_items _ _ _ c.args.sheet.accepted)

pub loop-k-preserved : goal.loop-k-preserved
loop-k-preserved c =
    let e = here (goal.at.loop-k-preserved c).In-loop-k in
    let w =
    rw (used (goal.at.loop-k-preserved c).After-figures_for-national, c.site_of-site.ensures.0, c.roof_of-roof.ensures.0, c.from.ensures ∙ e, c.from-in-loop-k.ensures ∙ e)
    at c.list_roof.ensures.wrote in (
      wrote_as (then c.loop-k.invariant.0 w) (next_roof_lem _ _ _ c.loop-k.k),
      omega (arith, c.loop-k.invariant.1, c.list_roof.ensures.upper_bound),
    )

pub returns : goal.returns
returns c =
    let e : c.loop-k.k ≡ c.args.sheet.items.count - 1 = omega arith in
    rw e at c.loop-k.invariant.0
