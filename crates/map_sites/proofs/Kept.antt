-- What the tests on a place on the map make of the definitions, and that an item's site that breaks no rule is an accepted site.
use Prim.Native.Nat.{ℕ, ◌≤◌}
use mathlib.Core.Bool.{true}
use mathlib.Core.Path.{◌≡◌}
use borrow.Author.Tests.{ltb-false}
use lib.Dec.{ltb}
use native.Mathlib.Omega.{arith}
use Rattle.figures.proofs.Accepted.{range, sound}
use Rattle.figures.proofs.Laws.{both, within_in, none_broken, kept}
use Rattle.figures.specs.Ranges.{within}
use Rattle.figures.specs.Rules.{first_of}
use Rattle.figures.specs.SiteRules.{ground_field, other_fields, altitude_refusal, site_refusal}
use Rattle.figures.specs.declared.site.Ground.{Ground}
use Rattle.figures.specs.declared.site.Ground.TheVariants.{Given, OnMap}
use Rattle.figures.specs.declared.site.SiteData.{SiteData}
use Rattle.ground_loads.specs.Map.{MapIn, ground_load}
use Rattle.map_sites.specs.Sites.{map_fields, map_refusal, sk_of, site_with, site_from}
use Rattle.map_sites.specs.Sites.{refusal_by, site_data_refusal}

module _ (region zone altitude : ℕ) where
  pub place_in : altitude_refusal altitude ≡ 0 → map_fields region zone ≡ true → MapIn region zone altitude
  place_in h e =
      let p = both (within 1 8 region) (within 1 5 zone) e in
      record {
        region = range 1 8 region p.0;
        zone = range 1 5 zone p.1;
        altitude = ltb-false 1500 altitude (kept (ltb 1500 altitude) 7 (omega arith) h);
      }

  -- a place on the map that breaks no rule: the table has it, and its load lies in its range
  pub map_kept :
      map_refusal region zone altitude ≡ 0
      → MapIn region zone altitude × (ground_field (ground_load region zone altitude) ≡ true) × (altitude_refusal altitude ≡ 0)
  unfolding map_refusal
  map_kept e =
      let a = none_broken _ _ e in
      let b = none_broken _ _ a.1 in
      (place_in a.0 (sound (map_fields region zone) 14 (omega arith) b.0), sound _ 15 (omega arith) b.1, a.0)

  pub load_most : map_refusal region zone altitude ≡ 0 → ground_load region zone altitude ≤ 25000
  load_most e = (within_in 100 25000 _ (map_kept e).1).1

-- an item's site by its ground load
module _ (d : SiteData) where
  pub map_sound :
      (region zone : ℕ) → other_fields d.ce d.ct d.cesl d.situation ≡ true → map_refusal region zone d.altitude ≡ 0
      → site_refusal (site_with (ground_load region zone d.altitude) d) ≡ 0
  unfolding site_refusal first_of
  map_sound region zone f e = let k = map_kept region zone d.altitude e in rw (k.1, f, k.2)

  site_by_lem : (g : Ground) → refusal_by g d ≡ 0 → site_refusal (site_with (sk_of g d.altitude) d) ≡ 0
  site_by_lem (Given sk) e = e
  site_by_lem (OnMap region zone) e = let a = none_broken _ _ e in map_sound region zone (sound (other_fields d.ce d.ct d.cesl d.situation) 6 (omega arith) a.0) a.1

  pub place_kept : (region zone : ℕ) → d.ground ≡ OnMap region zone → site_data_refusal d ≡ 0 → map_refusal region zone d.altitude ≡ 0
  unfolding site_data_refusal
  place_kept region zone g e = let f : refusal_by (OnMap region zone) d ≡ 0 = rw g at e in (none_broken _ _ f).1

  -- the site of an item that breaks no rule is accepted
  pub site_accepted : site_data_refusal d ≡ 0 → site_refusal (site_from d) ≡ 0
  unfolding site_data_refusal
  site_accepted e = site_by_lem d.ground e
