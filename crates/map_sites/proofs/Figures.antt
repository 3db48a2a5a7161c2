-- Refusals of places on the map at the ends of their ranges, worked by hand and computed here from the definitions.
use Prim.Native.Nat.{ℕ}
use mathlib.Core.List.{[], ◌∷◌}
use mathlib.Core.Path.{◌≡◌, refl}
use Rattle.std.specs.Prelude.{None}
use Rattle.figures.specs.Rules.{first_of}
use Rattle.figures.specs.declared.site.Ground.TheVariants.{OnMap}
use Rattle.figures.specs.declared.site.SiteData.{SiteData}
use Rattle.ground_loads.specs.Map.{rows, row_of, zone_load, expression, ground_load}
use Rattle.rounding.specs.Up.{ceil_div, rounded_up}
use Rattle.map_sites.specs.Sites.{map_refusal, site_data_refusal}

-- the altitude before the region and the zone, and these before the load, at the ends of their ranges
pub refusals :
    (map_refusal 9 6 1501 ∷ map_refusal 1 1 1500 ∷ map_refusal 0 1 0 ∷ map_refusal 8 5 0 ∷ map_refusal 9 1 0 ∷ map_refusal 1 0 0 ∷ map_refusal 1 6 0
    ∷ map_refusal 4 1 107 ∷ map_refusal 4 1 108 ∷ map_refusal 2 5 1085 ∷ map_refusal 2 5 1086
    ∷ [])
    ≡ (7 ∷ 0 ∷ 14 ∷ 0 ∷ 14 ∷ 14 ∷ 14 ∷ 15 ∷ 0 ∷ 0 ∷ 15 ∷ [])
unfolding map_refusal first_of ground_load expression zone_load row_of rows rounded_up ceil_div
refusals = refl

abbrev site_at : ℕ → ℕ → ℕ → ℕ → SiteData
site_at region zone ce altitude = record { ground = OnMap region zone; ce = ce; ct = 100; cesl = 200; situation = 0; altitude = altitude; day = None }

-- the other fields before all of these
pub site_refusals :
    (site_data_refusal (site_at 9 1 79 1501) ∷ site_data_refusal (site_at 9 1 80 1501) ∷ site_data_refusal (site_at 9 1 80 1500) ∷ site_data_refusal (site_at 4 1 80 0)
    ∷ site_data_refusal (site_at 4 2 80 0)
    ∷ [])
    ≡ (6 ∷ 7 ∷ 14 ∷ 15 ∷ 0 ∷ [])
unfolding site_data_refusal map_refusal first_of ground_load expression zone_load row_of rows rounded_up ceil_div
site_refusals = refl
