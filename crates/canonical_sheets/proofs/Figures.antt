-- Two layouts of the same two items, with other bytes between them, are written as one, and the bytes behind it stay; what is answered in
-- its order.
use Prim.Native.Nat.{ℕ}
use mathlib.Core.List.{List, [], ◌∷◌}
use mathlib.Core.Path.{◌≡◌, refl}
use lib.ListN.{replicate}
use Rattle.circles.specs.Following.{meets, comes_back}
use Rattle.figures.specs.Rules.{first_of}
use Rattle.figures.specs.SiteRules.{site_refusal}
use Rattle.figures.specs.Store.{sets_sound, store_refusal, set_in_use, day_refusal}
use Rattle.item_rules.specs.Rules.{job_refusal}
use Rattle.items.specs.Items.{by_kind, content}
use Rattle.map_sites.specs.Sites.{site_data_refusal}
use Rattle.pairs.specs.Pairs.{accepted, refused, pair_number, in_turn, pairs_verdict}
use Rattle.roof_items.specs.RoofItems.{cylindrical_item}
use Rattle.sheet.specs.Sheet.{item_number, rules_verdict, store_verdict, sheet_verdict}
use Rattle.site_items.specs.SiteItems.{day_at, site_item}
use Rattle.upper_items.specs.Uppers.{upper}
use Rattle.upper_rules.specs.UpperRules.{upper_number, circle_number, uppers_verdict}
use Rattle.canonical_sheets.specs.Canonical.{items_from, items, together, pairs_from, sheet_of, canonical, canonical_answer, canonical_after}

abbrev spread : List ℕ
spread = 2 ∷ 0 ∷ 11 ∷ 0 ∷ 2 ∷ 0 ∷ 14 ∷ 0 ∷ 1 ∷ 0 ∷ 77 ∷ 5 ∷ 6 ∷ 78 ∷ 9 ∷ 79 ∷ []

abbrev without_gaps : List ℕ
without_gaps = 2 ∷ 0 ∷ 10 ∷ 0 ∷ 2 ∷ 0 ∷ 12 ∷ 0 ∷ 1 ∷ 0 ∷ 5 ∷ 6 ∷ 9 ∷ []

abbrev lent : List ℕ
lent = 21 ∷ 22 ∷ 23 ∷ 24 ∷ 25 ∷ 26 ∷ 27 ∷ 28 ∷ 29 ∷ 30 ∷ 31 ∷ 32 ∷ 33 ∷ 34 ∷ 35 ∷ []

abbrev held : List ℕ
held = 2 ∷ 0 ∷ 10 ∷ 0 ∷ 2 ∷ 0 ∷ 12 ∷ 0 ∷ 1 ∷ 0 ∷ 5 ∷ 6 ∷ 9 ∷ 34 ∷ 35 ∷ []

pub written_without_gaps : (canonical spread ≡ without_gaps) × (canonical without_gaps ≡ without_gaps)
unfolding canonical sheet_of items items_from together pairs_from
written_without_gaps = (refl, refl)

pub behind_kept : (canonical_after (accepted 13) spread lent ≡ held) × (canonical_after (refused 11 0) spread lent ≡ lent)
unfolding canonical_after canonical sheet_of items items_from together pairs_from
behind_kept = (refl, refl)

-- a site alone, behind a gap of one byte; without it the sheet has 20 bytes
abbrev site_alone : List ℕ
site_alone = 1 ∷ 0 ∷ 7 ∷ 0 ∷ 14 ∷ 0 ∷ 77 ∷ 1 ∷ 232 ∷ 3 ∷ 0 ∷ 0 ∷ 100 ∷ 0 ∷ 100 ∷ 0 ∷ 200 ∷ 0 ∷ 0 ∷ 244 ∷ 1 ∷ []

abbrev empty : List ℕ
empty = replicate 193 0

-- 11 "after every other rule, naming item 0": here 18 and 4 of the first item come before it
pub eleven_last :
    (canonical_answer [] spread 0 ∷ canonical_answer empty spread 0 ∷ canonical_answer empty site_alone 19 ∷ canonical_answer empty site_alone 20 ∷ [])
    ≡ (refused 18 0 ∷ refused 4 0 ∷ refused 11 0 ∷ accepted 20 ∷ [])
unfolding canonical_answer canonical sheet_of items items_from together pairs_from sheet_verdict store_verdict store_refusal sets_sound rules_verdict pairs_verdict in_turn pair_number
    item_number uppers_verdict upper_number circle_number comes_back meets upper content by_kind
    site_item cylindrical_item day_at job_refusal day_refusal set_in_use site_data_refusal site_refusal first_of
eleven_last = refl
