-- From a sheet to figures: the site of a sheet, the national figures that its job uses, and the roof of an item.
use Rattle.std.specs.Prelude.{ℕ, cond, List, Result, Ok, Err, eqb}
use Rattle.figures.specs.Bounds.{FiguresIn}
use Rattle.figures.specs.Refusal.{number_of}
use Rattle.figures.specs.Store.{figures_in_use}
use Rattle.figures.specs.declared.accepted_figures.AcceptedFigures.{AcceptedFigures}
use Rattle.figures.specs.declared.national.National.{National}
use Rattle.figures.specs.declared.site.Site.{Site}
use Rattle.figures.specs.declared.roof.Roof.{Roof}
use Rattle.ceilings.specs.Ceilings.{terminals}
use Rattle.pairs.specs.Pairs.{Answer, accepted, refused, part}
use Rattle.pairs.specs.declared.turns.Refused.{Refused}
use Rattle.upper_items.specs.Uppers.{item_at, upper_index}
use Rattle.item_rules.specs.Figures.{site_by, roof_by}
use Rattle.sheet.specs.Sheet.{Place, place}
use Rattle.sheet_figures.specs.declared.Found.{Found}
use Rattle.sheet_figures.specs.declared.Found.TheVariants.{AtSite, AtRoof}

-- "The first item is a site and no other is": the site of a sheet
unfoldable pub sheet_site : List ℕ → Site
sheet_site s = site_by (item_at s 0)

-- document 02, A8: the national figures that the sheet's job uses, by its site's day
unfoldable pub sheet_national : List ℕ → List ℕ → National
sheet_national store s = figures_in_use store (sheet_site s).day

-- the roof of a later item; of kind 10 by its upper item
unfoldable pub sheet_roof : List ℕ → ℕ → Roof
sheet_roof s i = roof_by (part s i) (item_at s i) (item_at s (upper_index (item_at s i)))

-- the figures that a call on an item works with
pub record Figures : Type 0 where
  pub national : National
  pub site : Site
  pub roof : Roof

abbrev pub figures_at : List ℕ → List ℕ → ℕ → Figures
figures_at store s i = record { national = sheet_national store s; site = sheet_site s; roof = sheet_roof s i }

-- what an accepted sheet has at an index: its first item is the site, and no roof
pub data AtIndex : Type 0 where
  at_site : National → Site → AtIndex
  at_roof : Figures → AtIndex

abbrev pub found_in : List ℕ → List ℕ → ℕ → AtIndex
found_in store s i = cond (eqb i 0) (at_site (sheet_national store s) (sheet_site s)) (at_roof (figures_at store s i))

-- what any bytes as a sheet have at an index, read with a store: or the first broken rule with the item that it names
abbrev pub found_by : Answer Place → List ℕ → List ℕ → ℕ → Answer AtIndex
found_by (accepted p) store s i = accepted (found_in store s i)
found_by (refused number item) store s i = refused number item

unfoldable pub found : List ℕ → List ℕ → ℕ → Answer AtIndex
found store s i = found_by (place store terminals s i) store s i

-- figures that are found with a roof are accepted: what the calls on an item require
abbrev pub RoofAccepted : AtIndex → Type 0
RoofAccepted (at_site national site) = Unit
RoofAccepted (at_roof f) = FiguresIn f.national f.site f.roof

abbrev pub FoundAccepted : Answer AtIndex → Type 0
FoundAccepted (accepted f) = RoofAccepted f
FoundAccepted (refused number item) = Unit

-- what an answer of `find` says
abbrev pub figures_of : AcceptedFigures → Figures
figures_of f = record { national = f.national; site = f.site; roof = f.roof }

abbrev pub found_of : Found → AtIndex
found_of (AtSite national site) = at_site national site
found_of (AtRoof f) = at_roof (figures_of f)

abbrev pub found_means : Result Found Refused → Answer AtIndex
found_means (Ok f) = accepted (found_of f)
found_means (Err e) = refused (number_of e.refusal) e.item
