-- The value rules on a site, refusals 6 and 7, in document 01's order.
use Rattle.std.specs.Prelude.{ℕ, Bool, not, ◌&&◌, leb, ltb}
use Rattle.figures.specs.Ranges.{within}
use Rattle.figures.specs.Rules.{refused_if, first_of}
use Rattle.figures.specs.declared.site.Site.{Site}

-- sk 100..25,000
abbrev pub ground_field : ℕ → Bool
ground_field sk = within 100 25000 sk

-- Ce 80..120; Ct 1..100; Cesl 100..300; "6 when the situation is above 3, in its old place"
abbrev pub other_fields : ℕ → ℕ → ℕ → ℕ → Bool
other_fields ce ct cesl situation = within 80 120 ce && within 1 100 ct && within 100 300 cesl && leb situation 3

abbrev pub site_fields : Site → Bool
site_fields s = ground_field s.sk && other_fields s.ce s.ct s.cesl s.situation

-- "7 altitude above 1,500"
abbrev pub altitude_refusal : ℕ → ℕ
altitude_refusal altitude = refused_if (ltb 1500 altitude) 7

-- "6 site field outside its range, altitude apart", then 7: the first that a site breaks, 0 for none.
-- "A site is accepted" (document 01, words of demand 3) where this is 0
unfoldable pub site_refusal : Site → ℕ
site_refusal s = first_of (refused_if (not (site_fields s)) 6) (altitude_refusal s.altitude)
