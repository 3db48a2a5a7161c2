-- The value rules on a place on the map and on an item's site, and the site that it is: refusals 6, 7, 14 and 15.
use Rattle.std.specs.Prelude.{ℕ, Bool, not, cond, ◌&&◌, eqb, Result, Ok, Err}
use Rattle.figures.specs.Ranges.{within}
use Rattle.figures.specs.Rules.{refused_if, first_of}
use Rattle.figures.specs.SiteRules.{ground_field, other_fields, altitude_refusal, site_refusal}
use Rattle.figures.specs.declared.site.Ground.{Ground}
use Rattle.figures.specs.declared.site.Ground.TheVariants.{Given, OnMap}
use Rattle.figures.specs.declared.site.Site.{Site}
use Rattle.figures.specs.declared.site.SiteData.{SiteData}
use Rattle.ground_loads.specs.Map.{ground_load}

-- "Regions 1 to 8", "zones 1 to 5"
abbrev pub map_fields : ℕ → ℕ → Bool
map_fields region zone = within 1 8 region && within 1 5 zone

-- 7, then "14, in place of 6, when region or zone is outside its range, after 7", then
-- "15 when the load is outside 100..25,000, after 14"
unfoldable pub map_refusal : ℕ → ℕ → ℕ → ℕ
map_refusal region zone altitude =
    first_of (altitude_refusal altitude)
    (first_of (refused_if (not (map_fields region zone)) 14)
    (refused_if (not (ground_field (ground_load region zone altitude))) 15))

-- the load of a region, a zone and an altitude, or the number of the first rule that they break
unfoldable pub ground_answer : ℕ → ℕ → ℕ → Result ℕ ℕ
ground_answer region zone altitude =
    cond (eqb (map_refusal region zone altitude) 0)
    (Ok (ground_load region zone altitude))
    (Err (map_refusal region zone altitude))

-- the ground load of an item's site: "that whole number is sk"
abbrev pub sk_of : (ground : Ground) → ℕ → ℕ
sk_of (Given sk) altitude = sk
sk_of (OnMap region zone) altitude = ground_load region zone altitude

-- the site with a ground load and the other fields of an item
abbrev pub site_with : ℕ → SiteData → Site
site_with sk d =
    record { sk = sk; ce = d.ce; ct = d.ct; cesl = d.cesl; situation = d.situation; altitude = d.altitude; day = d.day }

-- the site that an item's data are; on the map "the site is the kind 1 site with it"
abbrev pub site_from : SiteData → Site
site_from d = site_with (sk_of d.ground d.altitude) d

-- the data of "the kind 1 site with it"
abbrev pub as_given : SiteData → SiteData
as_given d =
    record {
      ground = Given (sk_of d.ground d.altitude);
      ce = d.ce;
      ct = d.ct;
      cesl = d.cesl;
      situation = d.situation;
      altitude = d.altitude;
      day = d.day;
    }

-- the first rule that an item's site breaks by its own values, 0 for none: with a given load 6 and 7, on the map 6, 7, 14 and 15
abbrev pub refusal_by : Ground → SiteData → ℕ
refusal_by (Given sk) d = site_refusal (site_with sk d)
refusal_by (OnMap region zone) d =
    first_of (refused_if (not (other_fields d.ce d.ct d.cesl d.situation)) 6) (map_refusal region zone d.altitude)

unfoldable pub site_data_refusal : SiteData → ℕ
site_data_refusal d = refusal_by d.ground d
