-- Items of an accepted sheet: the first says an accepted site, each later one an accepted roof, a lower roof by its upper item. What
-- `find` hands on is accepted.
use Prim.Native.Nat.{ℕ, zero, suc, ◌<◌}
use mathlib.Core.Bool.{Bool, true, false, cond}
use mathlib.Core.List.{List}
use mathlib.Core.Logic.{◌⊎◌, inl, inr}
use mathlib.Core.Path.{◌≡◌, refl, sym, ap, subst, ◌∙◌}
use borrow.Author.Tests.{eqb-false, ltb-true}
use lib.Dec.{eqb, ltb}
use native.Mathlib.Omega.{arith}
use Rattle.std.specs.Prelude.{Result, Ok, Err}
use Rattle.figures.specs.Bounds.{NationalIn, FiguresIn}
use Rattle.figures.specs.Ranges.{within}
use Rattle.figures.specs.RoofRules.{kind_of, roof_of, roof_refusal}
use Rattle.figures.specs.SiteRules.{site_refusal}
use Rattle.figures.specs.Slopes.{AcceptedShape}
use Rattle.figures.specs.Store.{store_refusal}
use Rattle.figures.specs.Spans.{no_spans}
use Rattle.figures.specs.declared.refusal.Refusal.{Refusal}
use Rattle.figures.specs.declared.roof.LowerRoof.{LowerRoof}
use Rattle.figures.specs.declared.roof.Roof.{Roof}
use Rattle.figures.specs.declared.roof.Shape.{Shape}
use Rattle.figures.specs.declared.site.SiteData.{SiteData}
use Rattle.figures.proofs.Laws.{none_broken}
use Rattle.figures.proofs.Numbers.{numbered}
use Rattle.figures.proofs.Stores.{in_use_in}
use Rattle.figures.proofs.Tests.{clash}
use Rattle.map_sites.proofs.Kept.{site_accepted}
use Rattle.map_sites.specs.Sites.{site_data_refusal}
use Rattle.item_forms.specs.Forms.{is_lower}
use Rattle.item_forms.specs.declared.Item.{Item}
use Rattle.item_forms.specs.declared.Item.TheVariants.{SiteItem, RoofItem, LowerItem}
use Rattle.span_items.specs.SpanItems.{spans_said}
use Rattle.stepped_roofs.specs.Stepped.{is_upper, upper_shape, stepped_shape}
use Rattle.stepped_roofs.proofs.Uppers.{flat_accepted, stepped_accepted}
use Rattle.upper_items.specs.Uppers.{item_at, upper_index}
use Rattle.upper_rules.proofs.Kept.{Above, stands_above}
use Rattle.ceilings.specs.Ceilings.{terminals}
use Rattle.ceilings.specs.declared.Ceiling.{Ceiling}
use Rattle.figures.specs.declared.national.National.{National}
use Rattle.figures.specs.declared.site.Site.{Site}
use Rattle.pairs.specs.Pairs.{Answer, accepted, refused, part, PartIn}
use Rattle.item_rules.specs.Figures.{roof_by}
use Rattle.item_rules.specs.Rules.{job_refusal, rule_by}
use Rattle.sheet.specs.Sheet.{ItemIn, Place, item_number, sheet_verdict, place_by, place}
use Rattle.sheet.proofs.Kept.{SheetKept, sheet_kept, placed}
use Rattle.pairs.proofs.Kept.{not_refused, parts_in}
use Rattle.sheet_figures.specs.Find.{Figures, at_site, at_roof, figures_at, found_in, sheet_site, sheet_national, sheet_roof, found_by, found, RoofAccepted, FoundAccepted}

-- a first item that breaks no rule is a site
pub record FirstSite (x : Result Item Refusal) : Type 0 where
  pub fields : SiteData
  pub said : x ≡ Ok (SiteItem fields)
  pub sound : site_data_refusal fields ≡ 0

first_by : (store p : List ℕ) (x : Result Item Refusal) → rule_by store 0 p x ≡ 0 → FirstSite x
unfolding job_refusal
first_by store p (Ok (SiteItem fields)) e = record { fields = fields; said = refl; sound = (none_broken _ _ e).0 }
first_by store p (Ok (RoofItem shape)) e = absurd (omega arith)
first_by store p (Ok (LowerItem lower)) e = absurd (omega arith)
first_by store p (Err refusal) e = absurd (omega (arith, numbered refusal))

-- a later one is a roof of either kind
abbrev pub LaterRoof : Result Item Refusal → Type 0
LaterRoof x = ((shape : Shape) × (x ≡ Ok (RoofItem shape))) ⊎ ((lower : LowerRoof) × (x ≡ Ok (LowerItem lower)))

later_by : (store : List ℕ) (i : ℕ) (p : List ℕ) (x : Result Item Refusal) → 0 < i → rule_by store i p x ≡ 0 → LaterRoof x
later_by store zero p x h e = absurd (omega arith)
later_by store (suc i) p (Ok (SiteItem fields)) h e = absurd (omega arith)
later_by store (suc i) p (Ok (RoofItem shape)) h e = inl (shape, refl)
later_by store (suc i) p (Ok (LowerItem lower)) h e = inr (lower, refl)
later_by store (suc i) p (Err refusal) h e = absurd (omega (arith, numbered refusal))

pub not_other :
    {x : Result Item Refusal} {item : Item} → LaterRoof x → x ≡ Ok item → ((shape : Shape) → item ≡ RoofItem shape → ⊥)
    → ((lower : LowerRoof) → item ≡ LowerItem lower → ⊥) → ⊥
not_other (inl r) e roof lower = let f = sym e ∙ r.1 in roof r.0 cc
not_other (inr l) e roof lower = let f = sym e ∙ l.1 in lower l.0 cc

pub not_malformed : {x : Result Item Refusal} (refusal : Refusal) → LaterRoof x → x ≡ Err refusal → ⊥
not_malformed refusal (inl r) e = let f : Ok (RoofItem r.0) ≡ Err refusal = sym r.1 ∙ e in cc
not_malformed refusal (inr l) e = let f : Ok (LowerItem l.0) ≡ Err refusal = sym l.1 ∙ e in cc

-- what an item that may stand above another is, where it breaks no rule: an accepted roof of kind 2 or 3
pub record UpperIn (x : Result Item Refusal) : Type 0 where
  pub upper : is_upper x ≡ true
  pub shape : AcceptedShape (upper_shape x)
  pub kind : within 2 3 (kind_of (upper_shape x)) ≡ true

upper_by : (store : List ℕ) (i : ℕ) (p : List ℕ) (x : Result Item Refusal) → rule_by store i p x ≡ 0 → is_upper x ≡ true → UpperIn x
upper_by store i p (Ok (SiteItem fields)) e u = clash u refl
upper_by store zero p (Ok (RoofItem shape)) e u = absurd (omega arith)
upper_by store (suc i) p (Ok (RoofItem shape)) e u = record { upper = u; shape = record { spans = spans_said shape p; accepted = e }; kind = u }
upper_by store zero p (Ok (LowerItem lower)) e u = absurd (omega arith)
upper_by store (suc i) p (Ok (LowerItem lower)) e u =
    record { upper = u; shape = record { spans = no_spans; accepted = flat_accepted lower no_spans e }; kind = refl }
upper_by store i p (Err refusal) e u = clash u refl

roof_by_lem :
    (store : List ℕ) (i : ℕ) (p : List ℕ) (x above : Result Item Refusal) → 0 < i → rule_by store i p x ≡ 0 → (is_lower x ≡ true → UpperIn above)
    → roof_refusal (roof_by p x above) ≡ 0
roof_by_lem store zero p x above h e u = absurd (omega arith)
roof_by_lem store (suc i) p (Ok (SiteItem fields)) above h e u = absurd (omega arith)
roof_by_lem store (suc i) p (Ok (RoofItem shape)) above h e u = e
roof_by_lem store (suc i) p (Ok (LowerItem lower)) above h e u =
    let a = u refl in
    stepped_accepted lower (upper_shape above) a.shape.spans no_spans e a.shape.accepted a.kind
roof_by_lem store (suc i) p (Err refusal) above h e u = absurd (omega (arith, numbered refusal))

-- a first item that breaks no rule is an accepted site
pub site_sound : (store s : List ℕ) → item_number store s 0 ≡ 0 → site_refusal (sheet_site s) ≡ 0
unfolding sheet_site item_number
site_sound store s e = let f = first_by store (part s 0) (item_at s 0) e in rw f.said (site_accepted f.fields f.sound)

-- a first item that lies in a sheet and breaks no rule with some store
pub first_in : (s : List ℕ) → ItemIn s 0 → FirstSite (item_at s 0)
unfolding item_number
first_in s k = first_by k.store (part s 0) (item_at s 0) k.sound

-- the national figures that a sheet's job uses, of any bytes
pub national_in : (store s : List ℕ) → store_refusal store ≡ 0 → NationalIn (sheet_national store s)
unfolding sheet_national
national_in store s h = in_use_in store (sheet_site s).day h

-- the items of an accepted sheet
module _ (store : List ℕ) (ceiling : Ceiling) (s : List ℕ) (n : ℕ) (v : sheet_verdict store ceiling s ≡ accepted n) where
  sheet : SheetKept store ceiling s n
  sheet = sheet_kept store ceiling s n v

  pub some_items : 0 < n
  some_items = omega (arith, sheet.pairs.fit.some)

  pub first_site : FirstSite (item_at s 0)
  unfolding item_number
  first_site = first_by store (part s 0) (item_at s 0) (sheet.sound 0 some_items)

  pub site_in : site_refusal (sheet_site s) ≡ 0
  site_in = site_sound store s (sheet.sound 0 some_items)

  module _ (i : ℕ) (h : i < n) where
    stands : is_lower (item_at s i) ≡ true → Above s n i
    stands l = stands_above s n i (sheet.uppers.sound i h) l

    -- the upper item of a lower roof is one of the items, and an accepted roof
    pub above_below : is_lower (item_at s i) ≡ true → upper_index (item_at s i) < n
    above_below l = (stands l).item

    pub above_upper : is_lower (item_at s i) ≡ true → UpperIn (item_at s (upper_index (item_at s i)))
    unfolding item_number
    above_upper l =
        let above = upper_index (item_at s i) in
        upper_by store above (part s above) (item_at s above) (sheet.sound above (stands l).item) (stands l).upper

    -- what is asked for its shape
    pub below_asked :
        (lower : LowerRoof) → item_at s i ≡ Ok (LowerItem lower)
        → PartIn s lower.upper × (lower.upper < n) × (is_upper (item_at s lower.upper) ≡ true) × AcceptedShape (upper_shape (item_at s lower.upper))
    below_asked lower e =
        let l : is_lower (item_at s i) ≡ true = ap is_lower e in
        let u = above_upper l in (
          subst (λ (x : Result Item Refusal). PartIn s (upper_index x)) e (parts_in sheet.pairs (upper_index (item_at s i)) (above_below l)),
          subst (λ (x : Result Item Refusal). upper_index x < n) e (above_below l),
          subst (λ (x : Result Item Refusal). is_upper (item_at s (upper_index x)) ≡ true) e u.upper,
          subst (λ (x : Result Item Refusal). AcceptedShape (upper_shape (item_at s (upper_index x)))) e u.shape,
        )

    module _ (later : 0 < i) where
      pub later_roof : LaterRoof (item_at s i)
      unfolding item_number
      later_roof = later_by store i (part s i) (item_at s i) later (sheet.sound i h)

      pub roof_sound : roof_refusal (sheet_roof s i) ≡ 0
      unfolding item_number sheet_roof
      roof_sound = roof_by_lem store i (part s i) (item_at s i) (item_at s (upper_index (item_at s i))) later (sheet.sound i h) above_upper

      -- the roof by its item, and it is accepted
      pub own_roof :
          (shape : Shape) (roof : Roof) → item_at s i ≡ Ok (RoofItem shape) → roof ≡ roof_of shape (spans_said shape (part s i))
          → (roof ≡ sheet_roof s i) × (roof_refusal roof ≡ 0)
      unfolding sheet_roof
      own_roof shape roof e g = let f : roof ≡ sheet_roof s i = rw e g in (f, rw f roof_sound)

      pub lower_roof :
          (lower : LowerRoof) (roof : Roof) → item_at s i ≡ Ok (LowerItem lower)
          → roof ≡ roof_of (stepped_shape lower (upper_shape (item_at s lower.upper))) no_spans → (roof ≡ sheet_roof s i) × (roof_refusal roof ≡ 0)
      unfolding sheet_roof
      lower_roof lower roof e g = let f : roof ≡ sheet_roof s i = rw e g in (f, rw f roof_sound)

      pub figures_in : FiguresIn (sheet_national store s) (sheet_site s) (sheet_roof s i)
      figures_in = record { national = national_in store s sheet.accepted_store; site = site_in; roof = roof_sound }

-- what any bytes have at an index
module _ (store s : List ℕ) (i : ℕ) where
  pub sheet_refused : (number item : ℕ) → sheet_verdict store terminals s ≡ refused number item → refused number item ≡ found store s i
  unfolding found place place_by
  sheet_refused number item e = rw e

  pub index_refused :
      (n number item : ℕ) → sheet_verdict store terminals s ≡ accepted n → refused number item ≡ place_by (accepted n) s i
      → refused number item ≡ found store s i
  unfolding found place
  index_refused n number item e f = rw (e, ← f)

  module _ (n : ℕ) (p : Place) (e : sheet_verdict store terminals s ≡ accepted n) (f : accepted p ≡ place_by (accepted n) s i) where
    pub index_below : i < n
    unfolding place_by
    index_below = ltb-true i n (not_refused (ltb i n) _ 12 i p (sym f)).0

    pub item_found : accepted (found_in store s i) ≡ found store s i
    unfolding found place
    item_found = rw (e, ← f)

-- figures that are found are accepted
module _ (store s : List ℕ) (i : ℕ) where
  by_index :
      (b : Bool) (national : National) (site : Site) (f : Figures) → (b ≡ false → FiguresIn f.national f.site f.roof)
      → RoofAccepted (cond b (at_site national site) (at_roof f))
  by_index true national site f h = tt
  by_index false national site f h = h refl

  accepted_by : (v : Answer Place) → place store terminals s i ≡ v → FoundAccepted (found_by v store s i)
  accepted_by (refused number item) q = tt
  accepted_by (accepted p) q =
      let d = placed store terminals s i p q in
      by_index (eqb i 0) _ _ (figures_at store s i)
      (λ (e : eqb i 0 ≡ false). let z = eqb-false i 0 e in figures_in store terminals s d.items d.verdict i d.below (omega (arith, z)))

  pub found_accepted : FoundAccepted (found store s i)
  unfolding found
  found_accepted = accepted_by (place store terminals s i) refl
