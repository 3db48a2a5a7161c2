-- The example of document 01, and the same roof at a map site, computed from the definitions.
use Prim.Native.Nat.{ℕ, zero, suc, ◌<◌}
use mathlib.Core.List.{List, [], ◌∷◌}
use mathlib.Core.Path.{◌≡◌, refl}
use lib.ListN.{replicate}
use native.Mathlib.Omega.{arith}
use Rattle.figures.specs.RoofRules.{shape_refusal}
use Rattle.figures.specs.Rules.{first_of}
use Rattle.figures.specs.SiteRules.{site_refusal}
use Rattle.figures.specs.Store.{sets_sound, store_refusal, set_in_use, day_refusal, figures_in_use}
use Rattle.item_rules.specs.Rules.{job_refusal}
use Rattle.force_rows.specs.Rows.{slope_rows, force_rows}
use Rattle.roof_rows.specs.Rows.{segment_rows, code_rows, codes_rows, arrangement_rows}
use Rattle.roof_rows.specs.Rows.{roof_rows}
use Rattle.ground_loads.specs.Map.{rows, row_of, zone_load, expression, ground_load}
use Rattle.map_sites.specs.Sites.{map_refusal, site_data_refusal}
use Rattle.listing.specs.Listing.{listing_by, listing}
use Rattle.sheet_rows.specs.SheetRows.{item_rows, roofs_rows}
use Rattle.circles.specs.Following.{meets, comes_back, listed}
use Rattle.order.specs.Order.{lowest, ready, next_roof, added, first_roofs, order}
use Rattle.upper_items.specs.Uppers.{upper}
use Rattle.upper_rules.specs.UpperRules.{upper_number, circle_number, uppers_verdict}
use Rattle.rounding.specs.Limit.{larger}
use Rattle.rounding.specs.Load.{break_load}
use Rattle.rounding.specs.Ramp.{reading}
use Rattle.rounding.specs.Up.{ceil_div, rounded_up}
use Rattle.items.specs.Items.{by_kind, content}
use Rattle.site_items.specs.SiteItems.{day_at, site_item, map_site_item}
use Rattle.roof_items.specs.RoofItems.{monopitch_item}
use Rattle.sheet_figures.specs.Find.{sheet_site, sheet_national, sheet_roof}
use Rattle.sheet_figures.specs.MapSites.{given_item, GivenLoad}
use Rattle.pairs.specs.Pairs.{pair_number, in_turn, pairs_verdict, part}
use Rattle.sheet.specs.Sheet.{item_number, rules_verdict, store_verdict, sheet_verdict}
use Rattle.standard.specs.Arrangements.{factor_of, count_in, stretch_in, exists, count, stretch}
use Rattle.standard.specs.Codes.{exists_in}
use Rattle.standard.specs.Coefficients.{mu1, guarded}
use Rattle.figures.specs.Slopes.{slope_at}
use Rattle.standard.specs.Forces.{slope_load, whole_load, guard_rule, guard_force, overhang_at, guard_at}
use Rattle.standard.specs.Monopitch.{monopitch}
use Rattle.standard.specs.Sine.{sine_reference, sine_entry}
use Rattle.standard.specs.Stretch.{load, read_in, start_of, segment}
use Rattle.text.specs.Text.{decimal}

-- the empty store
abbrev empty : List ℕ
empty = replicate 193 0

-- 02 00 0A 00 0E 00 ..
abbrev sheet : List ℕ
sheet =
    2 ∷ 0 ∷ 10 ∷ 0 ∷ 14 ∷ 0 ∷ 24 ∷ 0 ∷ 8 ∷ 0 ∷
    1 ∷ 232 ∷ 3 ∷ 0 ∷ 0 ∷ 100 ∷ 0 ∷ 100 ∷ 0 ∷ 200 ∷ 0 ∷ 0 ∷ 244 ∷ 1 ∷
    2 ∷ 44 ∷ 1 ∷ 1 ∷ 136 ∷ 19 ∷ 0 ∷ 0 ∷ []

-- ITEM ARR START END LOAD LOAD, 1 1 0 20000 800 800, 1 22 1 2000
abbrev text : List ℕ
text =
    73 ∷ 84 ∷ 69 ∷ 77 ∷ 32 ∷ 65 ∷ 82 ∷ 82 ∷ 32 ∷ 83 ∷ 84 ∷ 65 ∷ 82 ∷ 84 ∷ 32 ∷
    69 ∷ 78 ∷ 68 ∷ 32 ∷ 76 ∷ 79 ∷ 65 ∷ 68 ∷ 32 ∷ 76 ∷ 79 ∷ 65 ∷ 68 ∷ 10 ∷
    49 ∷ 32 ∷ 49 ∷ 32 ∷ 48 ∷ 32 ∷ 50 ∷ 48 ∷ 48 ∷ 48 ∷ 48 ∷ 32 ∷ 56 ∷ 48 ∷ 48 ∷ 32 ∷ 56 ∷ 48 ∷ 48 ∷ 10 ∷
    49 ∷ 32 ∷ 50 ∷ 50 ∷ 32 ∷ 49 ∷ 32 ∷ 50 ∷ 48 ∷ 48 ∷ 48 ∷ 10 ∷ []

-- the same with a map site, Alpine Region, zone 2, in place of sk: 02 00 0A 00 0C 00 ..
abbrev map_sheet : List ℕ
map_sheet =
    2 ∷ 0 ∷ 10 ∷ 0 ∷ 12 ∷ 0 ∷ 22 ∷ 0 ∷ 8 ∷ 0 ∷
    8 ∷ 1 ∷ 2 ∷ 100 ∷ 0 ∷ 100 ∷ 0 ∷ 200 ∷ 0 ∷ 0 ∷ 244 ∷ 1 ∷
    2 ∷ 44 ∷ 1 ∷ 1 ∷ 136 ∷ 19 ∷ 0 ∷ 0 ∷ []

-- ITEM ARR START END LOAD LOAD, 1 1 0 20000 1523 1523, 1 22 1 3808
abbrev map_text : List ℕ
map_text =
    73 ∷ 84 ∷ 69 ∷ 77 ∷ 32 ∷ 65 ∷ 82 ∷ 82 ∷ 32 ∷ 83 ∷ 84 ∷ 65 ∷ 82 ∷ 84 ∷ 32 ∷
    69 ∷ 78 ∷ 68 ∷ 32 ∷ 76 ∷ 79 ∷ 65 ∷ 68 ∷ 32 ∷ 76 ∷ 79 ∷ 65 ∷ 68 ∷ 10 ∷
    49 ∷ 32 ∷ 49 ∷ 32 ∷ 48 ∷ 32 ∷ 50 ∷ 48 ∷ 48 ∷ 48 ∷ 48 ∷ 32 ∷ 49 ∷ 53 ∷ 50 ∷ 51 ∷ 32 ∷ 49 ∷ 53 ∷ 50 ∷ 51 ∷ 10 ∷
    49 ∷ 32 ∷ 50 ∷ 50 ∷ 32 ∷ 49 ∷ 32 ∷ 51 ∷ 56 ∷ 48 ∷ 56 ∷ 10 ∷ []

pub example : (listing empty sheet ≡ text) × (listing empty map_sheet ≡ map_text)
unfolding listing listing_by roofs_rows item_rows order first_roofs added next_roof ready lowest listed upper
    roof_rows arrangement_rows codes_rows code_rows segment_rows force_rows slope_rows sheet_site sheet_national sheet_roof
    sheet_verdict store_verdict store_refusal sets_sound rules_verdict uppers_verdict upper_number circle_number comes_back meets pairs_verdict in_turn pair_number
    item_number content by_kind site_item map_site_item day_at monopitch_item
    job_refusal day_refusal figures_in_use set_in_use site_data_refusal map_refusal ground_load expression zone_load row_of rows site_refusal shape_refusal first_of
    exists exists_in count count_in stretch stretch_in factor_of monopitch
    mu1 guarded segment start_of read_in load reading break_load rounded_up ceil_div larger
    slope_at slope_load whole_load overhang_at guard_at guard_force guard_rule sine_entry sine_reference
    decimal
example = (refl, refl)

-- the same with the kind 1 site of that load, 1,903, which stands beside it as the theorem on map sites asks
abbrev given_sheet : List ℕ
given_sheet =
    2 ∷ 0 ∷ 10 ∷ 0 ∷ 14 ∷ 0 ∷ 24 ∷ 0 ∷ 8 ∷ 0 ∷
    1 ∷ 111 ∷ 7 ∷ 0 ∷ 0 ∷ 100 ∷ 0 ∷ 100 ∷ 0 ∷ 200 ∷ 0 ∷ 0 ∷ 244 ∷ 1 ∷
    2 ∷ 44 ∷ 1 ∷ 1 ∷ 136 ∷ 19 ∷ 0 ∷ 0 ∷ []

other : (i : ℕ) → 0 < i → i < 2 → part map_sheet i ≡ part given_sheet i
other zero a b = absurd (omega arith)
other (suc zero) a b = refl
other (suc (suc i)) a b = absurd (omega arith)

pub beside : GivenLoad empty map_sheet given_sheet 2
unfolding pairs_verdict in_turn pair_number item_number content by_kind map_site_item day_at job_refusal day_refusal set_in_use site_data_refusal map_refusal ground_load expression
    zone_load row_of rows first_of rounded_up ceil_div sheet_site given_item
beside =
    record {
      pairs = refl;
      given_pairs = refl;
      bytes = refl;
      kind = refl;
      sound = refl;
      given = refl;
      others = other;
    }
