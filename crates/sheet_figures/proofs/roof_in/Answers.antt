use mathlib.Core.Path.{◌≡◌, sym, ap, ◌∙◌}
use Rattle.std.specs.Prelude.{Ok}
use Rattle.items.specs.Items.{content}
use Rattle.item_forms.specs.declared.Item.TheVariants.{LowerItem}
use Rattle.sheet.proofs.Kept.{item_in}
use Rattle.upper_items.specs.Uppers.{item_at}
use Rattle.sheet_figures.proofs.Sound.{later_roof, not_other, not_malformed, below_asked, own_roof, lower_roof}
use Rattle.sheet_figures.proofs.roof_in.Goals as goal
use Rattle.sheet_figures.proofs.roof_in.Goals.{After-content_of, In-Ok, In-LowerItem}

decoded : (c : After-content_of) → item_at c.args.s.now c.args.i ≡ c.content_of.result
decoded c = sym (c.content_of.ensures ∙ ap content c.part_at-p.ensures)

said : (c : In-Ok) → item_at c.args.s.now c.args.i ≡ Ok c.in-Ok.item
said c = decoded (goal.at.In-Ok c).After-content_of ∙ c.in-Ok.is

lower : (c : In-LowerItem) → item_at c.args.s.now c.args.i ≡ Ok (LowerItem c.in-LowerItem.lower)
lower c = said (goal.at.In-LowerItem c).In-Ok ∙ ap Ok c.in-LowerItem.is

pub part_at-p-requires : goal.part_at-p-requires
part_at-p-requires c = (item_in _ _ _ _ c.requires.0.verdict c.args.i c.requires.0.below).part

pub unreachable-requires : goal.unreachable-requires
unreachable-requires c =
    not_malformed c.in_default.field-0 (later_roof _ _ _ _ c.requires.0.verdict c.args.i c.requires.0.below c.requires.1)
    (decoded (goal.at.unreachable-requires c).After-content_of ∙ c.in_default.is)

pub shape_below-requires : goal.shape_below-requires
shape_below-requires c =
    let b = below_asked _ _ _ _ c.requires.0.verdict c.args.i c.requires.0.below _ (lower (goal.at.shape_below-requires c).In-LowerItem) in
    (b.0, b.3)

pub returns-in-LowerItem : goal.returns-in-LowerItem
returns-in-LowerItem c =
    lower_roof _ _ _ _ c.requires.0.verdict c.args.i c.requires.0.below c.requires.1 _ _ (lower (goal.at.returns-in-LowerItem c).In-LowerItem)
    (rw (c.shape_below.ensures, c.none.ensures))

pub unreachable-requires-in_default-item-2 : goal.unreachable-requires-in_default-item-2
unreachable-requires-in_default-item-2 c =
    not_other (later_roof _ _ _ _ c.requires.0.verdict c.args.i c.requires.0.below c.requires.1) (said (goal.at.unreachable-requires-in_default-item-2 c).In-Ok)
    c.in_default-item-2.not-RoofItem c.in_default-item.not-LowerItem

pub spans_in-requires : goal.spans_in-requires
spans_in-requires c = sym c.content_of.ensures ∙ (c.in-Ok.is ∙ ap Ok c.in-RoofItem.is)

pub returns : goal.returns
returns c =
    own_roof _ _ _ _ c.requires.0.verdict c.args.i c.requires.0.below c.requires.1 _ _ (said (goal.at.returns c).In-Ok ∙ ap Ok c.in-RoofItem.is)
    (rw (c.spans_in.ensures, c.part_at-p.ensures))
