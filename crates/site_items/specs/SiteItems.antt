-- The items of a site: kind 1 of document 01, and kind 8 of document 02, either with a job day or without.
use Rattle.std.specs.Prelude.{ℕ, ◌+◌, Bool, cond, ◌||◌, List, eqb, length, Option, Some, None, Result, Ok, Err}
use Rattle.figures.specs.declared.refusal.Refusal.{Refusal}
use Rattle.figures.specs.declared.refusal.Refusal.TheVariants.{ItemLength}
use Rattle.figures.specs.declared.site.Ground.{Ground}
use Rattle.figures.specs.declared.site.Ground.TheVariants.{Given, OnMap}
use Rattle.figures.specs.declared.site.SiteData.{SiteData}
use Rattle.little_endian.specs.Numbers.{byte_at, le16, le32}
use Rattle.item_forms.specs.declared.Item.{Item}
use Rattle.item_forms.specs.declared.Item.TheVariants.{SiteItem}

-- document 02, A8: "A site may carry two further bytes at its end, its job day"; the day of a site whose own bytes end at a byte
unfoldable pub day_at : List ℕ → ℕ → Option ℕ
day_at p own = cond (eqb (length p) (own + 2)) (Some (le16 p own)) None

-- "number 4 allows either length"
abbrev pub site_length : ℕ → ℕ → Bool
site_length own bytes = eqb bytes own || eqb bytes (own + 2)

abbrev pub site_sized : ℕ → List ℕ → Item → Result Item Refusal
site_sized own p item = cond (site_length own (length p)) (Ok item) (Err ItemLength)

-- a site with its ground load, whose fields from Ce on begin at a byte: Ce (16), Ct (16), Cesl (16), situation (8), altitude (16)
abbrev pub site_data_at : List ℕ → ℕ → (ground : Ground) → SiteData
site_data_at p at ground =
    record {
      ground = ground;
      ce = le16 p at;
      ct = le16 p (at + 2);
      cesl = le16 p (at + 4);
      situation = byte_at p (at + 6);
      altitude = le16 p (at + 7);
      day = day_at p (at + 9);
    }

-- 1, site, 14 bytes, or 16 with its day: sk (32), then Ce and the fields after it
unfoldable pub site_item : List ℕ → Result Item Refusal
site_item p = site_sized 14 p (SiteItem (site_data_at p 5 (Given (le32 p 1))))

-- "a site item of kind 8, 12 bytes: region (8 bits), zone (8 bits), then kind 1's fields from Ce on"
unfoldable pub map_site_item : List ℕ → Result Item Refusal
map_site_item p = site_sized 12 p (SiteItem (site_data_at p 3 (OnMap (byte_at p 1) (byte_at p 2))))
