use mathlib.Core.Path.{◌≡◌, sym, ap, subst, ◌∙◌}
use Rattle.item_forms.specs.declared.Item.TheVariants.{SiteItem}
use Rattle.items.specs.Items.{content}
use Rattle.item_rules.specs.Figures.{site_by}
use Rattle.sheet_figures.specs.Find.{sheet_site}
use Rattle.sheet_figures.proofs.Sound.{FirstSite, first_in}
use Rattle.sheet_figures.proofs.site_in.Goals as goal
use Rattle.sheet_figures.proofs.site_in.Goals.{After-content_of, In-Ok, In-SiteItem}

first : (c : After-content_of) → FirstSite c.content_of.result
first c = subst FirstSite (sym (c.content_of.ensures ∙ ap content c.part_at.ensures)) (first_in _ c.requires)

-- the item is the site's, and its fields are these
the_item : (c : In-Ok) (f : FirstSite c.content_of.result) → c.in-Ok.item ≡ SiteItem f.fields
the_item c f = let e = sym c.in-Ok.is ∙ f.said in cc

the_fields : (c : In-SiteItem) (f : FirstSite c.content_of.result) → c.in-SiteItem.fields ≡ f.fields
the_fields c f = let e = sym c.in-Ok.is ∙ f.said in let g = c.in-SiteItem.is in cc

pub part_at-requires : goal.part_at-requires
part_at-requires c = c.requires.part

pub unreachable-requires : goal.unreachable-requires
unreachable-requires c =
    let f = first (goal.at.unreachable-requires c).After-content_of in
    c.in_default.not-Ok (SiteItem f.fields) f.said

pub unreachable-requires-in_default-item : goal.unreachable-requires-in_default-item
unreachable-requires-in_default-item c =
    let f = first (goal.at.unreachable-requires-in_default-item c).After-content_of in
    c.in_default-item.not-SiteItem f.fields (the_item (goal.at.unreachable-requires-in_default-item c).In-Ok f)

pub site_from-requires : goal.site_from-requires
site_from-requires c =
    let f = first (goal.at.site_from-requires c).After-content_of in
    rw (the_fields (goal.at.site_from-requires c).In-SiteItem f) f.sound

pub returns : goal.returns
unfolding sheet_site
returns c =
    let f = first (goal.at.returns c).After-content_of in
    let e = the_fields (goal.at.returns c).In-SiteItem f in
    let site = rw e at c.site_from.ensures.0 in
    (site ∙ ap site_by (sym f.said ∙ (c.content_of.ensures ∙ ap content c.part_at.ensures)), c.site_from.ensures.1)
