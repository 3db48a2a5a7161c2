-- What an answer of the calls on figures tells: store and figures were accepted, the arrangement exists, the station lies on the roof.
-- So demand 3 holds of whatever is answered, for the set in use.
use Prim.Native.Nat.{ℕ, ◌≤◌}
use mathlib.Core.Path.{◌≡◌, refl, sym, subst}
use mathlib.Core.Bool.{Bool, true, false, cond}
use mathlib.Core.List.{List}
use borrow.Author.Tests.{leb-true, eqb-true, ne_eqb}
use lib.Dec.{leb, eqb}
use native.Mathlib.Omega.{arith}
use Rattle.figures.specs.Refusals.{figures_refusal}
use Rattle.figures.specs.RoofRules.{roof_refusal}
use Rattle.figures.specs.SiteRules.{site_refusal}
use Rattle.figures.specs.Store.{store_refusal, day_refusal}
use Rattle.figures.specs.declared.national.National.{National}
use Rattle.figures.specs.declared.site.Site.{Site}
use Rattle.figures.specs.declared.roof.Roof.{Roof}
use Rattle.figures.proofs.Stores.{accepted, in_use_in}
use Rattle.standard.specs.Answers.{Answer, value, refused, after_rules, after_code, national_for, station_answer, load_in, load_answer}
use Rattle.standard.specs.Arrangements.{exists, end_of, load_at, exact_at, NearExact}
use Rattle.figures.specs.Bounds.{FiguresIn}
use Rattle.standard.proofs.Demand.{Alike, distance, rising}

-- accepted figures, under the national ones in use
pub figures_accepted : (store : List ℕ) (site : Site) (roof : Roof) → figures_refusal store site roof ≡ 0 → FiguresIn (national_for store site) site roof
figures_accepted store site roof h =
    let a = accepted store site roof h in
    record { national = in_use_in store site.day a.accepted_store; site = a.site; roof = a.roof }

-- an answer that is a value comes from where the test before it held
pub value_of : (b : Bool) (a : Answer) (n x : ℕ) → cond b a (refused n) ≡ value x → (b ≡ true) × (a ≡ value x)
value_of true a n x e = (refl, e)
value_of false a n x e = let z : ◌≡◌ {A = ℕ} 0 1 = cc in absurd (omega arith)

-- what is answered after the rules on the figures: their refusal, or what comes next
module _ (store : List ℕ) (site : Site) (roof : Roof) (next : Answer) where
  pub after_rules_lem : (x : ℕ) → after_rules store site roof next ≡ value x → (figures_refusal store site roof ≡ 0) × (next ≡ value x)
  unfolding after_rules
  after_rules_lem x e =
      let p = value_of (eqb (figures_refusal store site roof) 0) next _ x e in
      (eqb-true _ 0 p.0, p.1)

  pub rules_refuse : (k : ℕ) → k ≡ figures_refusal store site roof → (k ≡ 0 → ⊥) → refused k ≡ after_rules store site roof next
  unfolding after_rules
  rules_refuse k e n = rw (← e, ne_eqb k 0 n)

  pub rules_pass : figures_refusal store site roof ≡ 0 → next ≡ after_rules store site roof next
  unfolding after_rules
  rules_pass e = rw e

-- what is answered after 13
module _ (site : Site) (roof : Roof) (code : ℕ) (next : Answer) where
  pub code_refuses : exists site roof code ≡ false → refused 13 ≡ after_code site roof code next
  unfolding after_code
  code_refuses e = rw e

  pub code_passes : exists site roof code ≡ true → next ≡ after_code site roof code next
  unfolding after_code
  code_passes e = rw e

-- a load was answered
pub record Answered (store : List ℕ) (site : Site) (roof : Roof) (code p x : ℕ) : Type 0 where
  pub rules : FiguresIn (national_for store site) site roof
  pub arrangement : exists site roof code ≡ true
  pub station : p ≤ end_of roof
  pub load : load_at (national_for store site) site roof code p ≡ x

module _ (store : List ℕ) (site : Site) (roof : Roof) (code p x : ℕ) where
  pub answered : load_answer store site roof code p ≡ value x → Answered store site roof code p x
  unfolding load_answer load_in after_code station_answer
  answered e =
      let national = national_for store site in
      let a = after_rules_lem store site roof _ x e in
      let c = value_of (exists site roof code) (station_answer national site roof code p) 13 x a.1 in
      let b = value_of (leb p (end_of roof)) (value (load_at national site roof code p)) 12 x c.1 in
      record {
        rules = figures_accepted store site roof a.0;
        arrangement = c.0;
        station = leb-true p (end_of roof) b.0;
        load = cc b.1;
      }

  -- demand 3, of what the call answers: at least the exact rule and less than 1.2 N/m² above it, for the set in use
  pub answers_near : load_answer store site roof code p ≡ value x → NearExact x (exact_at (national_for store site) site roof code p)
  answers_near e =
      let a = answered e in
      let f = a.rules in
      rw a.load at (distance (national_for store site) site roof code f.national f.site f.roof p)

-- demand 3, of two answers: they never fall as the ground load alone rises, where "the two sites of the rising rule use equal sets"
pub answers_rise :
    (a b : List ℕ) (s t : Site) (roof : Roof) (code p x y : ℕ) → Alike s t → national_for a s ≡ national_for b t → s.sk ≤ t.sk
    → load_answer a s roof code p ≡ value x → load_answer b t roof code p ≡ value y → x ≤ y
answers_rise a b s t roof code p x y l u h e f =
    let q = answered a s roof code p x e in
    let r = answered b t roof code p y f in
    let z : load_at (national_for a s) t roof code p ≡ y = subst (λ (n : National). load_at n t roof code p ≡ y) (sym u) r.load in
    omega (arith, rising (national_for a s) s t roof code p q.rules.national q.rules.site q.rules.roof l h, q.load, z)

-- demand 3 in document 02's words: "their premises include a store that 18 doesn't refuse and a site that 19 doesn't"
pub distance_in_use :
    (store : List ℕ) (site : Site) (roof : Roof) (code p : ℕ) → store_refusal store ≡ 0 → site_refusal site ≡ 0 → day_refusal store site.day ≡ 0
    → roof_refusal roof ≡ 0 → NearExact (load_at (national_for store site) site roof code p) (exact_at (national_for store site) site roof code p)
distance_in_use store site roof code p k hs hd hr = distance (national_for store site) site roof code (in_use_in store site.day k) hs hr p

pub rising_in_use :
    (store : List ℕ) (s t : Site) (roof : Roof) (code p : ℕ) → store_refusal store ≡ 0 → site_refusal s ≡ 0 → site_refusal t ≡ 0
    → day_refusal store s.day ≡ 0 → day_refusal store t.day ≡ 0 → roof_refusal roof ≡ 0 → Alike s t → national_for store s ≡ national_for store t
    → s.sk ≤ t.sk → load_at (national_for store s) s roof code p ≤ load_at (national_for store t) t roof code p
rising_in_use store s t roof code p k hs ht ds dt hr l u h =
    subst (λ (n : National). load_at (national_for store s) s roof code p ≤ load_at n t roof code p) u
    (rising (national_for store s) s t roof code p (in_use_in store s.day k) hs hr l h)
