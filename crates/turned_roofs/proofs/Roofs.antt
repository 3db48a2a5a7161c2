-- The hall turned round: twice is the roof itself, the rules refuse it alike, and its loads are the roof's from the other end.
use Prim.Native.Nat.{ℕ}
use mathlib.Core.Path.{◌≡◌, refl, ap, ◌∙◌}
use mathlib.Core.Bool.{Bool, true, false, cond}
use mathlib.Core.Logic.{⊎_elim}
use borrow.Author.Tests.{eqb-true}
use lib.Dec.{eqb}
use Rattle.figures.specs.Bounds.{NationalIn}
use Rattle.figures.specs.RoofRules.{kind_of, drifts_of, roof_refusal}
use Rattle.figures.specs.SiteRules.{site_refusal}
use Rattle.figures.specs.declared.national.National.{National}
use Rattle.figures.specs.declared.site.Site.{Site}
use Rattle.figures.specs.declared.roof.Shape.{Shape}
use Rattle.figures.specs.declared.roof.Roof.{Roof}
use Rattle.figures.proofs.Tests.{told, clash}
use Rattle.standard.specs.Arrangements.{exists, end_of}
use Rattle.standard.specs.Codes.{drift_kind, exists_in}
use Rattle.turned_roofs.specs.OtherEnd.{SameFromEnd}
use Rattle.turned_roofs.specs.Turned.{mirrored, is_turned, turned, exchanged, turned_code, mirrored_code}
use Rattle.turned_roofs.proofs.Codes.{exchanged_keeps}
use Rattle.turned_roofs.proofs.Rules.{same_refusal, same_end}
use Rattle.turned_roofs.proofs.Shapes.{every_shape, kept}
use Rattle.turned_roofs.proofs.OtherEnd.{same_from_end}

-- kinds 3, 4 and 7 have no drifts of Annex B, and each has its own other end
no_drifts : (shape : Shape) → is_turned (kind_of shape) ≡ true → drift_kind (kind_of shape) ≡ false
no_drifts =
    every_shape (λ shape. is_turned (kind_of shape) ≡ true → drift_kind (kind_of shape) ≡ false)
    (λ left right t. refl) (λ n drifts. go drifts) (λ p t. refl) (λ h1 h2 b1 b2 t. clash t refl) (λ shape same off t. clash (rw t) off)
  where
    go : (drifts : Bool) → is_turned (cond drifts 9 4) ≡ true → drift_kind (cond drifts 9 4) ≡ false
    go true t = clash t refl
    go false t = refl

module _ (roof : Roof) (t : is_turned (kind_of roof.shape) ≡ true) where
  pub turned_is : turned roof ≡ mirrored roof.shape roof.spans
  unfolding turned
  turned_is = rw t

  turned_code_is : (code : ℕ) → turned_code (kind_of roof.shape) code ≡ mirrored_code (kind_of roof.shape) (drifts_of roof.shape) code
  unfolding turned_code mirrored_code
  turned_code_is code = rw (no_drifts roof.shape t)

turned_stays : (roof : Roof) → is_turned (kind_of roof.shape) ≡ false → turned roof ≡ roof
unfolding turned
turned_stays roof f = rw f

-- what holds of a roof, and of it from its other end, holds of the turned roof
either_end : (roof : Roof) (P : Roof → Type 0) → P (mirrored roof.shape roof.spans) → P roof → P (turned roof)
unfolding turned
either_end roof P p q = go (is_turned (kind_of roof.shape))
  where
    go : (b : Bool) → P (cond b (mirrored roof.shape roof.spans) roof)
    go true = p
    go false = q

module _ (roof : Roof) where
  same_kind : kind_of (turned roof).shape ≡ kind_of roof.shape
  same_kind = either_end roof (λ r. kind_of r.shape ≡ kind_of roof.shape) (kept roof.shape roof.spans).kind refl

  same_drifts : drifts_of (turned roof).shape ≡ drifts_of roof.shape
  same_drifts = either_end roof (λ r. drifts_of r.shape ≡ drifts_of roof.shape) (kept roof.shape roof.spans).drifts refl

  -- the number of the first rule that is broken, 0 for an accepted roof
  pub turned_refusal : roof_refusal (turned roof) ≡ roof_refusal roof
  turned_refusal = either_end roof (λ r. roof_refusal r ≡ roof_refusal roof) (same_refusal roof.shape roof.spans) refl

  pub turned_end : roof_refusal roof ≡ 0 → end_of (turned roof) ≡ end_of roof
  unfolding end_of
  turned_end h = either_end roof (λ r. end_of r ≡ end_of roof) (same_end roof.shape roof.spans h) refl

  -- "Turning twice gives the first roof back"
  pub turned_twice : turned (turned roof) ≡ roof
  turned_twice =
      ⊎_elim
      (λ (t : is_turned (kind_of roof.shape) ≡ true).
      turned_is (turned roof) (rw same_kind t)
      ∙ ap (λ (r : Roof). mirrored r.shape r.spans) (turned_is roof t)
      ∙ (kept roof.shape roof.spans).twice)
      (λ (f : is_turned (kind_of roof.shape) ≡ false). turned_stays (turned roof) (rw same_kind f) ∙ turned_stays roof f)
      (told (is_turned (kind_of roof.shape)))

  module _ (code : ℕ) where
    -- and the code
    pub turned_code_twice : turned_code (kind_of (turned roof).shape) (turned_code (kind_of roof.shape) code) ≡ code
    unfolding turned_code
    turned_code_twice = rw same_kind (go (eqb (kind_of roof.shape) 3))
      where
        go : (b : Bool) → cond b (exchanged (cond b (exchanged code) code)) (cond b (exchanged code) code) ≡ code
        go true = (exchanged_keeps code).back
        go false = refl

    -- an arrangement exists where the roof has it
    pub turned_exists : (site : Site) → exists site (turned roof) (turned_code (kind_of roof.shape) code) ≡ exists site roof code
    unfolding exists turned_code
    turned_exists site = rw (same_kind, same_drifts) (go (eqb (kind_of roof.shape) 3) refl)
      where
        go :
            (b : Bool) → eqb (kind_of roof.shape) 3 ≡ b
            → exists_in (kind_of roof.shape) site.situation (drifts_of roof.shape) (cond b (exchanged code) code)
            ≡ exists_in (kind_of roof.shape) site.situation (drifts_of roof.shape) code
        go true e =
            let three = eqb-true (kind_of roof.shape) 3 e in
            rw three ((exchanged_keeps code).there site.situation (drifts_of roof.shape))
        go false e = refl

-- "the load at a position must equal the load at the roof's end less that position", for accepted figures
module _ (national : National) (site : Site) (roof : Roof) (code : ℕ)
    (hn : NationalIn national) (hs : site_refusal site ≡ 0) (hr : roof_refusal roof ≡ 0)
    (he : exists site roof code ≡ true) (t : is_turned (kind_of roof.shape) ≡ true) where
  pub turned_from_end : SameFromEnd national site roof code (turned roof) (turned_code (kind_of roof.shape) code)
  turned_from_end = rw (turned_is roof t, turned_code_is roof t code) (same_from_end national site roof code hn hs hr he (rw t))
