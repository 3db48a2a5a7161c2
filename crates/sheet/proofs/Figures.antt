-- Sheets worked out by hand: 8 and 9 pairs of which none is sound, read by the desk and by a terminal; and a lower roof behind a site, with
-- an item behind it.
use Prim.Native.Nat.{ℕ, ◌*◌}
use mathlib.Core.List.{List, [], ◌∷◌, ◌++◌}
use mathlib.Core.Path.{◌≡◌, refl}
use lib.ListN.{length, replicate}
use Rattle.circles.specs.Following.{meets, comes_back}
use Rattle.ceilings.specs.Ceilings.{ceiling_of}
use Rattle.ceilings.specs.declared.Caller.{Caller}
use Rattle.ceilings.specs.declared.Caller.TheVariants.{Terminal, Desk}
use Rattle.figures.specs.RoofRules.{shape_refusal}
use Rattle.figures.specs.Rules.{first_of}
use Rattle.figures.specs.SiteRules.{site_refusal}
use Rattle.figures.specs.Store.{set_sound, sets_sound, store_refusal, last_begun, set_in_use, day_refusal}
use Rattle.item_rules.specs.Rules.{job_refusal}
use Rattle.items.specs.Items.{by_kind, content}
use Rattle.map_sites.specs.Sites.{site_data_refusal}
use Rattle.pairs.specs.Pairs.{Answer, accepted, refused, pair_number, in_turn, pairs_verdict}
use Rattle.roof_items.specs.RoofItems.{monopitch_item, lower_item}
use Rattle.site_items.specs.SiteItems.{day_at, site_item}
use Rattle.sheet.specs.Sheet.{item_number, rules_verdict, store_verdict, sheet_verdict}
use Rattle.upper_items.specs.Uppers.{upper}
use Rattle.upper_rules.specs.UpperRules.{upper_number, circle_number, uppers_verdict}

-- the empty store
abbrev empty : List ℕ
empty = replicate 193 0

abbrev unsound : ℕ → List ℕ
unsound n = n ∷ 0 ∷ replicate (4 * n) 0

abbrev read : Caller → ℕ → Answer ℕ
read caller n = sheet_verdict empty (ceiling_of caller) (unsound n)

-- 1 in its old place, before 2: 8 pairs are the desk's to read, 9 are too many for it
pub one_before_two :
    (read Desk 8 ∷ read Terminal 8 ∷ read Desk 9 ∷ read Terminal 9 ∷ [])
    ≡ (refused 2 0 ∷ refused 2 0 ∷ refused 1 0 ∷ refused 2 0 ∷ [])
unfolding sheet_verdict store_verdict store_refusal sets_sound rules_verdict pairs_verdict in_turn pair_number
one_before_two = refl

-- a sound site at 14, a lower roof under an upper item at 28, the last item at 39
abbrev stepped : ℕ → List ℕ → Answer ℕ
stepped i last =
    sheet_verdict empty (ceiling_of Terminal)
    (3 ∷ 0 ∷ 14 ∷ 0 ∷ 14 ∷ 0 ∷ 28 ∷ 0 ∷ 11 ∷ 0 ∷ 39 ∷ 0 ∷ length last ∷ 0
    ∷ 1 ∷ 232 ∷ 3 ∷ 0 ∷ 0 ∷ 100 ∷ 0 ∷ 100 ∷ 0 ∷ 200 ∷ 0 ∷ 0 ∷ 244 ∷ 1
    ∷ 10 ∷ 160 ∷ 15 ∷ 0 ∷ 0 ∷ 196 ∷ 9 ∷ 0 ∷ 0 ∷ i ∷ 0 ∷ last)

-- a shed of a width; one of 0 is refused by 8
abbrev shed : ℕ → List ℕ
shed width = 2 ∷ 0 ∷ 0 ∷ 0 ∷ width ∷ 0 ∷ 0 ∷ 0 ∷ []

-- "as a check over all items after their own rules": the last item's own rules, 3 and 8, come before 16 and 17 of the first roof
pub own_rules_first :
    (stepped 2 (shed 1) ∷ stepped 0 (shed 1) ∷ stepped 1 (shed 1) ∷ stepped 0 (shed 0) ∷ stepped 1 (shed 0) ∷ stepped 3 (255 ∷ []) ∷ [])
    ≡ (accepted 3 ∷ refused 16 1 ∷ refused 17 1 ∷ refused 8 2 ∷ refused 8 2 ∷ refused 3 2 ∷ [])
unfolding sheet_verdict store_verdict store_refusal sets_sound rules_verdict pairs_verdict in_turn pair_number item_number uppers_verdict upper_number circle_number comes_back meets
    upper content by_kind site_item day_at monopitch_item lower_item job_refusal day_refusal set_in_use site_data_refusal site_refusal shape_refusal first_of
own_rules_first = refl

-- a site alone with a job day of 100, and a store whose one set begins on a day
abbrev dated : ℕ → List ℕ
dated altitude =
    1 ∷ 0 ∷ 6 ∷ 0 ∷ 16 ∷ 0
    ∷ 1 ∷ 232 ∷ 3 ∷ 0 ∷ 0 ∷ 100 ∷ 0 ∷ 100 ∷ 0 ∷ 200 ∷ 0 ∷ 0 ∷ altitude ∷ 5 ∷ 100 ∷ 0 ∷ []

abbrev beginning : ℕ → List ℕ
beginning day = (1 ∷ day ∷ 200 ∷ 80 ∷ 400 ∷ 5000 ∷ 15000 ∷ []) ++ replicate 186 0

-- 18 before every rule on a sheet; 19 with no set begun, behind 7
pub by_its_day :
    (sheet_verdict [] (ceiling_of Terminal) (unsound 33) ∷ sheet_verdict (replicate 192 0) (ceiling_of Desk) (dated 0) ∷ sheet_verdict empty (ceiling_of Terminal) (dated 0)
    ∷ sheet_verdict (beginning 101) (ceiling_of Terminal) (dated 0) ∷ sheet_verdict (beginning 100) (ceiling_of Desk) (dated 0) ∷ sheet_verdict empty (ceiling_of Terminal) (dated 255) ∷ [])
    ≡ (refused 18 0 ∷ refused 18 0 ∷ refused 19 0 ∷ refused 19 0 ∷ accepted 1 ∷ refused 7 0 ∷ [])
unfolding sheet_verdict store_verdict store_refusal sets_sound set_sound rules_verdict pairs_verdict in_turn pair_number item_number uppers_verdict upper_number circle_number comes_back meets
    upper content by_kind site_item day_at job_refusal day_refusal set_in_use last_begun site_data_refusal site_refusal first_of
by_its_day = refl
