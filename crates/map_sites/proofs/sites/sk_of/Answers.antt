use Rattle.map_sites.proofs.Kept.{place_kept}
use Rattle.map_sites.proofs.sites.sk_of.Goals as goal

pub sk_on_map-requires : goal.sk_on_map-requires
sk_on_map-requires c = place_kept _ _ _ c.in-OnMap.is c.requires

pub returns-in-OnMap : goal.returns-in-OnMap
returns-in-OnMap c = rw (c.sk_on_map.ensures, c.in-OnMap.is)
