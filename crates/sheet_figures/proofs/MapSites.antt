-- A sheet with a map site is read as the sheet with the kind 1 site of its load: the verdict, the site and the roofs.
use Prim.Native.Nat.{ℕ, ◌+◌, ◌*◌, ◌/◌, ◌%◌}
use mathlib.Core.Bool.{Bool, true, false, ◌||◌}
use mathlib.Core.List.{List}
use mathlib.Core.Logic.{◌⊎◌, inl, inr, ⊎_elim}
use mathlib.Core.Path.{◌≡◌, refl, sym, ap, ◌∙◌}
use borrow.Author.Tests.{eqb-true}
use lib.Dec.{eqb}
use lib.ListN.{length}
use native.Mathlib.Omega.{arith}
use Rattle.figures.specs.declared.site.Ground.TheVariants.{OnMap}
use Rattle.figures.specs.declared.site.SiteData.{SiteData}
use Rattle.map_sites.proofs.Kept.{site_accepted}
use Rattle.map_sites.specs.Sites.{sk_of, as_given, site_data_refusal}
use Rattle.items.specs.Items.{by_kind, content}
use Rattle.site_items.specs.SiteItems.{day_at, site_length, site_data_at, site_item, map_site_item}
use Rattle.item_forms.specs.declared.Item.{Item}
use Rattle.item_forms.specs.declared.Item.TheVariants.{SiteItem}
use Rattle.std.specs.Prelude.{Result, Ok}
use Rattle.figures.specs.declared.refusal.Refusal.{Refusal}
use Rattle.little_endian.specs.Numbers.{byte_at}
use Rattle.ceilings.specs.Ceilings.{terminals}
use Rattle.pairs.specs.Pairs.{part}
use Rattle.figures.specs.Store.{day_refusal}
use Rattle.figures.proofs.Laws.{first_kept, none_broken}
use Rattle.item_rules.specs.Figures.{site_by}
use Rattle.item_rules.specs.Rules.{job_refusal, rule_by}
use Rattle.sheet.specs.Sheet.{item_number}
use Rattle.sheet_figures.proofs.Alike as law
use Rattle.sheet.proofs.Alike.{AlikeSheets}
use Rattle.sheet_figures.specs.Find.{sheet_site, found}
use Rattle.sheet_figures.specs.MapSites.{given_item, GivenLoad}

-- a site has its own bytes, or two more
own_or_dated : (own bytes : ℕ) → site_length own bytes ≡ true → (bytes ≡ own) ⊎ (bytes ≡ own + 2)
own_or_dated own bytes h = by_tests (eqb bytes own) (eqb bytes (own + 2)) (eqb-true bytes own) (eqb-true bytes (own + 2)) h
  where
    by_tests : {A B : Type 0} (a b : Bool) → (a ≡ true → A) → (b ≡ true → B) → (a || b) ≡ true → A ⊎ B
    by_tests true b f g e = inl (f refl)
    by_tests false b f g e = inr (g e)

-- what the bytes of a map site say, and those of the kind 1 item with its load
module _ (p : List ℕ) where
  abbrev on_map : SiteData
  on_map = site_data_at p 3 (OnMap (byte_at p 1) (byte_at p 2))

  map_item : site_length 12 (length p) ≡ true → byte_at p 0 ≡ 8 → content p ≡ Ok (SiteItem on_map)
  unfolding content by_kind map_site_item
  map_item l k =
      ⊎_elim
      (λ (e : length p ≡ 12). rw (e, k))
      (λ (e : length p ≡ 14). rw (e, k))
      (own_or_dated 12 (length p) l)

  given_item_lem :
      (q : List ℕ) (sk : ℕ) → site_length 12 (length p) ≡ true → q ≡ given_item sk p → sk ≡ sk_of on_map.ground on_map.altitude
      → content q ≡ Ok (SiteItem (as_given on_map))
  unfolding content by_kind site_item given_item day_at
  given_item_lem q sk l e h =
      let whole : sk % 256 + 256 * (sk / 256) + 65536 * 0 + 16777216 * 0 ≡ sk_of on_map.ground on_map.altitude = omega arith in
      ⊎_elim
      (λ (b : length p ≡ 12). rw (e, whole, b))
      (λ (b : length p ≡ 14). rw (e, whole, b))
      (own_or_dated 12 (length p) l)

module _ (store s t : List ℕ) (n : ℕ) (g : GivenLoad store s t n) where
  abbrev d : SiteData
  d = on_map (part s 0)

  site : content (part s 0) ≡ Ok (SiteItem d)
  site = map_item (part s 0) g.bytes g.kind

  its_load : (sheet_site s).sk ≡ sk_of d.ground d.altitude
  unfolding sheet_site
  its_load = ap (λ (x : Result Item Refusal). (site_by x).sk) site

  given_site : content (part t 0) ≡ Ok (SiteItem (as_given d))
  given_site = given_item_lem (part s 0) (part t 0) (sheet_site s).sk g.bytes g.given its_load

  kept : (site_data_refusal d ≡ 0) × (day_refusal store d.day ≡ 0)
  unfolding item_number job_refusal
  kept = none_broken _ _ (sym (ap (rule_by store 0 (part s 0)) site) ∙ g.sound)

  given_number : item_number store t 0 ≡ 0
  unfolding item_number job_refusal site_data_refusal
  given_number =
      let given : job_refusal store (as_given d) ≡ 0 = sym (first_kept _ _ (site_accepted d kept.0)) ∙ kept.1 in
      ap (rule_by store 0 (part t 0)) given_site ∙ given

  pub alike : AlikeSheets store terminals s t n
  alike =
      record {
        pairs = g.pairs;
        other_pairs = g.given_pairs;
        number = g.sound ∙ sym given_number;
        first = λ f h. ap f site ∙ (h d (as_given d) ∙ sym (ap f given_site));
        others = g.others;
      }

  pub same_site : sheet_site s ≡ sheet_site t
  unfolding sheet_site
  same_site = ap site_by site ∙ sym (ap site_by given_site)

  -- every call on an item has the same figures, or the same refusal
  pub same_found : (i : ℕ) → found store s i ≡ found store t i
  same_found = law.same_found alike same_site
