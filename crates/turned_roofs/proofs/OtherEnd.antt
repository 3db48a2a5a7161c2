-- The loads of a roof of kinds 3, 4, 7, 9 and 12 from its other end, for accepted figures and every code that exists.
use Prim.Native.Nat.{ℕ, ◌+◌, ◌-◌, ◌≤◌}
use mathlib.Core.Path.{◌≡◌, refl, sym, subst, ◌∙◌}
use mathlib.Core.Bool.{Bool, true, false, cond}
use native.Mathlib.Omega.{arith}
use Rattle.figures.specs.Bounds.{NationalIn}
use Rattle.figures.specs.RoofRules.{kind_of, drifts_of, shape_refusal, roof_refusal}
use Rattle.figures.specs.SiteRules.{site_refusal}
use Rattle.figures.specs.declared.national.National.{National}
use Rattle.figures.specs.declared.site.Site.{Site}
use Rattle.figures.specs.declared.slopes.Spans.{Spans}
use Rattle.figures.specs.declared.roof.Obstruction.TheVariants.{SmallProjection}
use Rattle.figures.specs.declared.roof.Shape.{Shape}
use Rattle.figures.specs.declared.roof.Shape.TheVariants.{MultiSpan, Obstructed}
use Rattle.figures.specs.declared.roof.Roof.{Roof}
use Rattle.figures.proofs.Accepted.{shape_in}
use Rattle.figures.proofs.Tests.{clash}
use Rattle.rounding.specs.Fraction.{Same}
use Rattle.rounding.proofs.Rounding.{same_sym}
use Rattle.standard.specs.Arrangements.{factor_of, count_in, stretch_in, exists, count, stretch, end_of, load_in_parts, exact_at}
use Rattle.standard.specs.Codes.{base_code, names_drift, exists_in}
use Rattle.standard.specs.Stretch.{Stretch, start_of}
use Rattle.standard.proofs.Codes.{named_base}
use Rattle.standard.proofs.Demand.{well_formed}
use Rattle.turned_roofs.specs.Mirror.{MirrorRun}
use Rattle.turned_roofs.specs.OtherEnd.{SameFromEnd}
use Rattle.turned_roofs.specs.Turned.{mirrored, is_mirrored, turned_code, mirrored_code}
use Rattle.turned_roofs.proofs.Codes.{exchanged_keeps, named_back, drifts_add_up, code_mirrored, base_names, none_named}
use Rattle.turned_roofs.proofs.Ends.{pitched_mirror, projection_mirror, projection_count_mirrored, small_projection_mirror, small_projection_count}
use Rattle.turned_roofs.proofs.Mirrors.{segment_mirrored, greatest_mirrored, exact_greatest_mirrored}
use Rattle.turned_roofs.proofs.Rules.{enough, same_end}
use Rattle.turned_roofs.proofs.Shapes.{every_shape, kept}
use Rattle.turned_roofs.proofs.SpanRows.{SpanCodes, slopes_reversed, valleys_reversed, spans_mirror, spans_count_mirrored}

-- the codes of roofs with spans: of one that names a valley, and of any other, which both roofs have
module _ (n code : ℕ) where
  plain_codes : names_drift (n - 1) code ≡ false → SpanCodes n (base_code code) (base_code code)
  plain_codes e = record { named = refl; valley = λ t. clash t (base_names (n - 1) code ∙ e); other = λ f. refl }

  drift_codes : names_drift (n - 1) code ≡ true → SpanCodes n (base_code code) (base_code (61 + (n - 1) - code))
  drift_codes e =
      let m = named_back (n - 1) code e in
      rw (named_base (n - 1) code e, named_base (n - 1) (61 + (n - 1) - code) m)
      (record { named = e ∙ sym m; valley = λ t. drifts_add_up (n - 1) code e; other = λ f. clash e f })

  span_codes : SpanCodes n (base_code code) (base_code (mirrored_code 9 (n - 1) code))
  unfolding mirrored_code turned_code
  span_codes = go (names_drift (n - 1) code) refl
    where
      go : (b : Bool) → names_drift (n - 1) code ≡ b → SpanCodes n (base_code code) (base_code (cond b (61 + (n - 1) - code) code))
      go true e = drift_codes e
      go false e = plain_codes e

-- the stretches of a code from the other end, as many
module _ (national : National) (factor sk situation code : ℕ) where
  record FromEnd (shape : Shape) (spans : Spans) (other : Roof) (other_code : ℕ) : Type 0 where
    run :
        MirrorRun (stretch_in national shape spans factor sk (base_code code))
        (stretch_in national other.shape other.spans factor sk (base_code other_code)) (count_in national shape (base_code code))
    as_many : count_in national other.shape (base_code other_code) ≡ count_in national shape (base_code code)

  abbrev Shown : Shape → Type 0
  Shown shape =
      (spans : Spans) → is_mirrored (kind_of shape) ≡ true → shape_refusal shape spans ≡ 0
      → exists_in (kind_of shape) situation (drifts_of shape) code ≡ true
      → FromEnd shape spans (mirrored shape spans) (mirrored_code (kind_of shape) (drifts_of shape) code)

  spans_case : (n : ℕ) (drifts : Bool) → Shown (MultiSpan n drifts)
  unfolding mirrored shape_refusal stretch_in count_in mirrored_code turned_code
  spans_case n true spans t h e =
      let k = enough true spans n h in
      let c = span_codes n code in
      record {
        run = spans_mirror n _ _ c spans _ factor sk (slopes_reversed spans n k.slopes) (λ m. valleys_reversed spans n (k.valleys refl));
        as_many = sym (spans_count_mirrored n _ _ c);
      }
  spans_case n false spans t h e =
      let k = enough false spans n h in
      let off = none_named 4 situation (n - 1) code refl e in
      let c = plain_codes n code off in
      record {
        run = spans_mirror n _ _ c spans _ factor sk (slopes_reversed spans n k.slopes) (λ m. clash m (base_names (n - 1) code ∙ off));
        as_many = refl;
      }

  from_end : (shape : Shape) → Shown shape
  unfolding mirrored stretch_in count_in mirrored_code turned_code
  from_end =
      every_shape Shown
      (λ left right spans t h e.
      let x = exchanged_keeps code in
      record { run = pitched_mirror factor sk left.slope right.slope left.guard right.guard _ _ x.two x.three; as_many = refl })
      spans_case
      (λ p spans t h e.
      record { run = projection_mirror p.h p.left p.right factor sk; as_many = sym (projection_count_mirrored p.h p.left p.right) })
      (λ h1 h2 b1 b2 spans t h e.
      let f = shape_in (Obstructed (SmallProjection h1 h2 b1 b2)) spans h in
      record { run = small_projection_mirror h1 h2 b1 b2 f sk; as_many = sym (small_projection_count h1 h2 b1 b2 f) })
      (λ shape same off spans t. clash t off)

-- an arrangement exists where the roof has it
pub mirrored_exists :
    (site : Site) (roof : Roof) (code : ℕ)
    → exists site (mirrored roof.shape roof.spans) (mirrored_code (kind_of roof.shape) (drifts_of roof.shape) code) ≡ exists site roof code
unfolding exists
mirrored_exists site roof code =
    let k = kept roof.shape roof.spans in
    rw (k.kind, k.drifts) ((code_mirrored (kind_of roof.shape) (drifts_of roof.shape) code).there site.situation)

module _ (national : National) (site : Site) (roof : Roof) (code : ℕ)
    (hn : NationalIn national) (hs : site_refusal site ≡ 0) (hr : roof_refusal roof ≡ 0)
    (he : exists site roof code ≡ true) (hm : is_mirrored (kind_of roof.shape) ≡ true) where
  abbrev other : Roof
  other = mirrored roof.shape roof.spans

  abbrev other_code : ℕ
  other_code = mirrored_code (kind_of roof.shape) (drifts_of roof.shape) code

  from_roof : FromEnd national (factor_of site code) site.sk site.situation code roof.shape roof.spans other other_code
  unfolding exists
  from_roof = from_end national (factor_of site code) site.sk site.situation code roof.shape roof.spans hm hr he

  same_factor : factor_of site code ≡ factor_of site other_code
  unfolding factor_of
  same_factor = rw (code_mirrored (kind_of roof.shape) (drifts_of roof.shape) code).accident

  abbrev S : ℕ → Stretch
  S = stretch national site roof code

  abbrev T : ℕ → Stretch
  T = stretch national site other other_code

  abbrev n : ℕ
  n = count national roof code

  run : MirrorRun S T n
  unfolding stretch count
  run =
      subst (λ (z : ℕ). MirrorRun S (stretch_in national other.shape other.spans z site.sk (base_code other_code)) n) same_factor from_roof.run

  as_many : count national other other_code ≡ n
  unfolding count
  as_many = from_roof.as_many

  to_the_end : start_of S n ≡ end_of roof
  to_the_end = (well_formed national site roof code hn hs hr).last

  module _ (p : ℕ) (h : p ≤ end_of roof) where
    adds_up : p + (end_of roof - p) ≡ start_of S n
    adds_up = omega (arith, to_the_end)

    read_from_end : (g : ℕ) → load_in_parts g national site other other_code (end_of roof - p) ≡ load_in_parts g national site roof code p
    unfolding load_in_parts
    read_from_end g = rw as_many (sym (greatest_mirrored S T n p (end_of roof - p) run adds_up g))

    exact_from_end : Same (exact_at national site other other_code (end_of roof - p)) (exact_at national site roof code p)
    unfolding exact_at
    exact_from_end =
        let f = (well_formed national site roof code hn hs hr).each in
        rw as_many (same_sym _ _ (exact_greatest_mirrored S T n p (end_of roof - p) run adds_up f))

  pub same_from_end : SameFromEnd national site roof code other other_code
  unfolding end_of
  same_from_end =
      record {
        as_long = same_end roof.shape roof.spans hr;
        as_many = as_many;
        load = λ g p h. read_from_end p h g;
        exact = exact_from_end;
        segments = λ g i j h. segment_mirrored S T n run g i j h (end_of roof) to_the_end;
      }
