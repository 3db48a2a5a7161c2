-- The refusal of a store, a site and a roof together.
use Rattle.std.specs.Prelude.{ℕ, List}
use Rattle.figures.specs.RoofRules.{roof_refusal}
use Rattle.figures.specs.Rules.{first_of}
use Rattle.figures.specs.SiteRules.{site_refusal}
use Rattle.figures.specs.Store.{store_refusal, day_refusal}
use Rattle.figures.specs.declared.site.Site.{Site}
use Rattle.figures.specs.declared.roof.Roof.{Roof}

-- the rules on a site: its own values, 6 and 7, then document 02, A8: "19 when a dated job has no set begun, after 7"
abbrev pub dated_refusal : List ℕ → Site → ℕ
dated_refusal store site = first_of (site_refusal site) (day_refusal store site.day)

-- "A call with figures instead of a sheet checks the site, then the roof"; 18 "comes before any rule on the sheet or the figures":
-- the first rule that they break, 0 for none
abbrev pub figures_refusal : List ℕ → Site → Roof → ℕ
figures_refusal store site roof = first_of (store_refusal store) (first_of (dated_refusal store site) (roof_refusal roof))
