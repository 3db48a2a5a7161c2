-- The figures that an item says: a site, or a roof.
use Rattle.std.specs.Prelude.{ℕ, false, List, Result, Ok, Err, None}
use Rattle.figures.specs.RoofRules.{roof_of}
use Rattle.figures.specs.Spans.{no_spans}
use Rattle.figures.specs.declared.refusal.Refusal.{Refusal}
use Rattle.figures.specs.declared.site.Site.{Site}
use Rattle.figures.specs.declared.roof.Shape.{Shape}
use Rattle.figures.specs.declared.roof.Shape.TheVariants.{MultiSpan}
use Rattle.figures.specs.declared.roof.Roof.{Roof}
use Rattle.map_sites.specs.Sites.{site_from}
use Rattle.item_forms.specs.declared.Item.{Item}
use Rattle.item_forms.specs.declared.Item.TheVariants.{SiteItem, RoofItem, LowerItem}
use Rattle.span_items.specs.SpanItems.{spans_said}
use Rattle.stepped_roofs.specs.Stepped.{upper_shape, stepped_shape}

-- a site and a roof of zeros, where there is none
abbrev pub no_site : Site
no_site = record { sk = 0; ce = 0; ct = 0; cesl = 0; situation = 0; altitude = 0; day = None }

abbrev pub no_shape : Shape
no_shape = MultiSpan 0 false

abbrev pub no_roof : Roof
no_roof = roof_of no_shape no_spans

-- the site that an item says, from its ground load or from the map
abbrev pub site_by : Result Item Refusal → Site
site_by (Ok (SiteItem fields)) = site_from fields
site_by (Ok (RoofItem shape)) = no_site
site_by (Ok (LowerItem lower)) = no_site
site_by (Err refusal) = no_site

-- the roof that an item says by its bytes, with what stands above it where its upper figures come from there
abbrev pub roof_by : List ℕ → Result Item Refusal → Result Item Refusal → Roof
roof_by p (Ok (SiteItem fields)) above = no_roof
roof_by p (Ok (RoofItem shape)) above = roof_of shape (spans_said shape p)
roof_by p (Ok (LowerItem lower)) above = roof_of (stepped_shape lower (upper_shape above)) no_spans
roof_by p (Err refusal) above = no_roof
