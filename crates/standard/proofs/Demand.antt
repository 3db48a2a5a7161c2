-- What is owed on the loads of accepted figures: segments well formed, a load at every station, its distance from the exact
-- rule, and its rise with sk.
use Prim.Native.Nat.{ℕ, suc, ◌*◌, ◌≤◌, ◌<◌}
use mathlib.Core.Path.{◌≡◌, refl, sym, ap, subst, ◌∙◌}
use mathlib.Core.Bool.{Bool, true, false, cond}
use borrow.Author.Tests.{not-false}
use lib.Dec.{eqb}
use native.Mathlib.Nat.{mul-pos}
use native.Mathlib.Omega.{arith}
use Rattle.std.proofs.lemmas.Bool.{true≢false}
use Rattle.figures.specs.Bounds.{SiteIn, ShapeIn}
use Rattle.figures.specs.SiteRules.{site_refusal}
use Rattle.figures.specs.RoofRules.{kind_of, drifts_of, roof_refusal}
use Rattle.figures.specs.declared.site.Site.{Site}
use Rattle.figures.specs.declared.slopes.Spans.{Spans}
use Rattle.figures.specs.declared.roof.Obstruction.TheVariants.{Parapet, SmallProjection}
use Rattle.figures.specs.declared.roof.Shape.{Shape}
use Rattle.figures.specs.declared.roof.Shape.TheVariants.{Monopitch, Pitched, MultiSpan, Cylindrical, Abutting, Projection, Obstructed}
use Rattle.figures.specs.declared.roof.Roof.{Roof}
use Rattle.figures.proofs.Accepted.{site_in, shape_in}
use Rattle.figures.proofs.Laws.{within_in}
use Rattle.figures.proofs.Tests.{clash}
use Rattle.figures.specs.Bounds.{NationalIn}
use Rattle.standard.specs.Abutting.{abutting_count}
use Rattle.standard.specs.Codes.{accidental, base_code, drift_kind, names_drift, several_slopes}
use Rattle.standard.specs.Stretch.{start_of, read_in, greatest}
use Rattle.standard.specs.Arrangements.{factor_of, count_in, stretch_in, ramped_in, end_in, exists, count, stretch, end_of}
use Rattle.standard.specs.Arrangements.{load_in_parts, load_at, exact_at, NearExact}
use Rattle.standard.specs.Obstruction.{obstruction_lengths, obstructed}
use Rattle.standard.specs.Units.{parts, largest_position}
use Rattle.standard.specs.ValleyDrift.{spans_count}
use Rattle.figures.specs.declared.national.National.{National}
use Rattle.standard.proofs.Runs.{Held, ReadHeld, ExactHeld, Rises, Level, WellFormed, returned}
use Rattle.standard.proofs.Runs.{near_greatest, covered, one_reads, one_exact, starts_within, rise_greatest, start_load}
use Rattle.standard.proofs.Codes.{named_base}
use Rattle.standard.proofs.Monopitch.{monopitch_formed, monopitch_rises, monopitch_level}
use Rattle.standard.proofs.Pitched.{pitched_formed, pitched_rises, pitched_level}
use Rattle.standard.proofs.MultiSpan.{widths_most}
use Rattle.standard.proofs.Cylindrical.{cylindrical_formed, cylindrical_rises, cylindrical_level, cylindrical_apart}
use Rattle.standard.proofs.Abutting.{abutting_formed, abutting_rises, abutting_level, abutting_apart}
use Rattle.standard.proofs.Projection.{projection_formed, projection_rises, projection_level, projection_apart}
use Rattle.standard.proofs.Drift.{drift_level, drift_apart, few_stretches}
use Rattle.standard.proofs.Obstruction.{obstructed_formed, obstructed_rises, obstruction_end_most}
use Rattle.standard.proofs.ValleyDrift.{spans_formed, spans_rises, spans_level, drift_alike, valley_apart}

-- kind by kind
module _ (national : National) (spans : Spans) (factor code : ℕ) where
  formed_in :
      (shape : Shape) (sk : ℕ) → 0 < sk → 0 < national.short → ShapeIn shape spans
      → WellFormed (stretch_in national shape spans factor sk code) (count_in national shape code) (end_in shape spans)
  unfolding stretch_in count_in end_in
  formed_in (Monopitch slope) sk hs hn f = monopitch_formed factor slope.slope slope.guard sk f.slope
  formed_in (Pitched left right) sk hs hn f = pitched_formed factor left.slope right.slope left.guard right.guard code sk f.left.slope f.right.slope
  formed_in (MultiSpan count drifts) sk hs hn f = spans_formed spans factor count code sk f
  formed_in (Cylindrical arch) sk hs hn f = cylindrical_formed national factor arch.rise arch.span (eqb code 1) sk f.rise.low f.half
  formed_in (Abutting lower) sk hs hn f =
      abutting_formed national factor lower.b1 lower.b2 lower.h lower.slope.slope lower.slope.guard (eqb code 1) sk hs hn f.lower.low f.step.low
  formed_in (Projection p) sk hs hn f = projection_formed factor p.h p.left p.right sk hs f.left.low f.right.low
  formed_in (Obstructed by) sk hs hn f = obstructed_formed by f sk

  rises_in :
      (shape : Shape) (s t i : ℕ) → 0 < s → s ≤ t → ShapeIn shape spans
      → Rises (stretch_in national shape spans factor s code i) (stretch_in national shape spans factor t code i)
  unfolding stretch_in
  rises_in (Monopitch slope) s t i hs p f = monopitch_rises factor slope.slope slope.guard s t i p
  rises_in (Pitched left right) s t i hs p f = pitched_rises factor left.slope right.slope left.guard right.guard code s t i p
  rises_in (MultiSpan count drifts) s t i hs p f = spans_rises spans factor count code s t i p f
  rises_in (Cylindrical arch) s t i hs p f = cylindrical_rises national factor arch.rise arch.span (eqb code 1) s t i p
  rises_in (Abutting lower) s t i hs p f =
      abutting_rises national factor lower.b1 lower.b2 lower.h lower.slope.slope lower.slope.guard (eqb code 1) s t i hs p f.step.low
  rises_in (Projection r) s t i hs p f = projection_rises factor r.h r.left r.right s t i hs p
  rises_in (Obstructed by) s t i hs p f = obstructed_rises by f s t i p

  level_in : (shape : Shape) (sk i : ℕ) → ramped_in national shape code i ≡ false → Level (stretch_in national shape spans factor sk code i)
  unfolding stretch_in ramped_in obstructed
  level_in (Monopitch slope) sk i e = monopitch_level factor slope.slope slope.guard sk i
  level_in (Pitched left right) sk i e = pitched_level factor left.slope right.slope left.guard right.guard code sk i
  level_in (MultiSpan count drifts) sk i e = spans_level spans factor count code sk i e
  level_in (Cylindrical arch) sk i e = cylindrical_level national factor arch.rise arch.span (eqb code 1) sk i e
  level_in (Abutting lower) sk i e =
      abutting_level national factor lower.b1 lower.b2 lower.h lower.slope.slope lower.slope.guard (eqb code 1) sk i e
  level_in (Projection p) sk i e = projection_level factor p.h p.left p.right sk i e
  level_in (Obstructed by) sk i e = drift_level (obstruction_lengths by) _ _ i e

-- no roof is longer than the largest position
end_most : (shape : Shape) (spans : Spans) → ShapeIn shape spans → end_in shape spans ≤ largest_position
unfolding end_in
end_most (Monopitch slope) spans f = omega (arith, f.slope.width.high)
end_most (Pitched left right) spans f = omega (arith, f.left.slope.width.high, f.right.slope.width.high)
end_most (MultiSpan count drifts) spans f = omega (arith, widths_most spans (2 * count) f.spans, f.count.high)
end_most (Cylindrical arch) spans f = omega (arith, f.span.high)
end_most (Abutting lower) spans f = omega (arith, f.lower.high)
end_most (Projection p) spans f = omega (arith, f.left.high, f.right.high)
end_most (Obstructed by) spans f = omega (arith, obstruction_end_most by f)

-- a pitched roof has two segments, and an exceptional drift four at most
pub record Few (kind drifts code n : ℕ) : Type 0 where
  pub pitched : kind ≡ 3 → n ≤ 2
  pub drift : drift_kind kind ≡ true → names_drift drifts code ≡ true → n ≤ 4

pub few_segments : (national : National) (shape : Shape) (code : ℕ) → Few (kind_of shape) (drifts_of shape) code (count_in national shape code)
unfolding count_in spans_count
few_segments national (Monopitch slope) code = record { pitched = λ e. omega arith; drift = λ e n. omega arith }
few_segments national (Pitched left right) code = record { pitched = λ e. omega arith; drift = λ e n. omega arith }
few_segments national (MultiSpan count true) code = record { pitched = λ e. absurd (omega arith); drift = λ e n. rw n (omega arith) }
few_segments national (MultiSpan count false) code = record { pitched = λ e. absurd (omega arith); drift = λ e n. clash e refl }
few_segments national (Cylindrical arch) code = record { pitched = λ e. absurd (omega arith); drift = λ e n. clash e refl }
few_segments national (Abutting lower) code = go lower.stepped
  where
    go : (stepped : Bool) → Few (cond stepped 10 6) 0 code (abutting_count national lower.b2 lower.h (eqb code 1))
    go true = record { pitched = λ e. absurd (omega arith); drift = λ e n. clash e refl }
    go false = record { pitched = λ e. absurd (omega arith); drift = λ e n. clash e refl }
few_segments national (Projection p) code = record { pitched = λ e. absurd (omega arith); drift = λ e n. clash e refl }
few_segments national (Obstructed (Parapet h b1 b2)) code = record { pitched = λ e. absurd (omega arith); drift = λ e n. few_stretches _ }
few_segments national (Obstructed (SmallProjection h1 h2 b1 b2)) code = record { pitched = λ e. absurd (omega arith); drift = λ e n. few_stretches _ }

module _ (national : National) (spans : Spans) (factor sk code i : ℕ) (hf : 0 < factor) (hs : 0 < sk) where
  apart_in :
      (shape : Shape) → several_slopes (kind_of shape) (drifts_of shape) code ≡ false → suc i < count_in national shape code
      → ramped_in national shape code i ≡ false → ramped_in national shape code (suc i) ≡ false
      → returned (stretch_in national shape spans factor sk code i).from ≡ returned (stretch_in national shape spans factor sk code (suc i)).from → ⊥
  unfolding stretch_in count_in ramped_in
  apart_in (Monopitch slope) k c e e' d = omega arith
  apart_in (Pitched left right) k c e e' d = true≢false k
  apart_in (MultiSpan count true) k c e e' d = valley_apart count code i (not-false _ k) c e e'
  apart_in (MultiSpan count false) k c e e' d = true≢false k
  apart_in (Cylindrical arch) k c e e' d = cylindrical_apart national factor arch.rise arch.span (eqb code 1) sk i hf hs c e e' d
  apart_in (Abutting lower) k c e e' d = abutting_apart national lower.b2 lower.h (eqb code 1) i c e
  apart_in (Projection p) k c e e' d = projection_apart p.h p.left p.right i c e e'
  apart_in (Obstructed by) k c e e' d = drift_apart (obstruction_lengths by) i c e e'

factor_positive : (site : Site) (code : ℕ) → SiteIn site → 0 < factor_of site code
unfolding factor_of
factor_positive site code f = mul-pos (mul-pos (omega (arith, f.ce.low)) (omega (arith, f.ct.low))) (go (accidental code))
  where
    go : (b : Bool) → 0 < cond b site.cesl 100
    go true = omega (arith, f.cesl.low)
    go false = omega arith

-- the theorems
module _ (national : National) (site : Site) (roof : Roof) (code : ℕ)
    (hn : NationalIn national) (hs : site_refusal site ≡ 0) (hr : roof_refusal roof ≡ 0) where
  pub well_formed : WellFormed (stretch national site roof code) (count national roof code) (end_of roof)
  unfolding stretch count end_of
  well_formed =
      formed_in national roof.spans (factor_of site code) (base_code code) roof.shape site.sk
      (omega (arith, (site_in site hs).sk.low)) (omega (arith, hn.short.low)) (shape_in roof.shape roof.spans hr)

  pub every_station : (p : ℕ) → p ≤ end_of roof → Held (stretch national site roof code) p (count national roof code)
  every_station p h =
      let w = well_formed in
      covered (stretch national site roof code) p (count national roof code) w.some (rw w.last h)

  pub one_of_them : (p : ℕ) → p ≤ end_of roof → ReadHeld (stretch national site roof code) p parts (count national roof code)
  one_of_them p h =
      let w = well_formed in
      one_reads (stretch national site roof code) p parts (count national roof code) w.some (rw w.last h)

  pub one_exact_of_them : (p : ℕ) → p ≤ end_of roof → ExactHeld (stretch national site roof code) p (count national roof code)
  one_exact_of_them p h =
      let w = well_formed in
      one_exact (stretch national site roof code) p (count national roof code) w.each w.some (rw w.last h)

  -- every start and end of a segment lies on the roof
  pub start_on_roof : (i : ℕ) → i ≤ count national roof code → start_of (stretch national site roof code) i ≤ end_of roof
  start_on_roof i h = starts_within _ _ _ i well_formed h

  pub end_in_range : end_of roof ≤ largest_position
  unfolding end_of
  end_in_range = end_most roof.shape roof.spans (shape_in roof.shape roof.spans hr)

  -- "A reading is then less than 1.2 N/m² above the exact rule"
  pub distance : (p : ℕ) → NearExact (load_at national site roof code p) (exact_at national site roof code p)
  unfolding load_in_parts exact_at
  distance p = near_greatest (stretch national site roof code) p 10 (count national roof code) (omega arith) well_formed.each

-- two sites that differ in sk alone; their days are as they are, since "the two sites of the rising rule use equal sets" (document 02, A8)
pub record Alike (s t : Site) : Type 0 where
  pub ce : s.ce ≡ t.ce
  pub ct : s.ct ≡ t.ct
  pub cesl : s.cesl ≡ t.cesl
  pub situation : s.situation ≡ t.situation
  pub altitude : s.altitude ≡ t.altitude

pub exists_alike : (s t : Site) (roof : Roof) (code : ℕ) → Alike s t → exists s roof code ≡ exists t roof code
unfolding exists
exists_alike s t roof code a = rw a.situation

same_factor : (s t : Site) (code : ℕ) → Alike s t → factor_of s code ≡ factor_of t code
unfolding factor_of
same_factor s t code a = rw (a.ce, a.ct, a.cesl)

-- The first site's factor is put for the second's in the second load alone.
pub rising :
    (national : National) (s t : Site) (roof : Roof) (code p : ℕ) → NationalIn national → site_refusal s ≡ 0 → roof_refusal roof ≡ 0
    → Alike s t → s.sk ≤ t.sk → load_at national s roof code p ≤ load_at national t roof code p
unfolding load_in_parts stretch count
rising national s t roof code p hn hs hr a h =
    let f = shape_in roof.shape roof.spans hr in
    let k = factor_of s code in
    let hk : 0 < s.sk = omega (arith, (site_in s hs).sk.low) in
    let hl : 0 < national.short = omega (arith, hn.short.low) in
    let n = count_in national roof.shape (base_code code) in
    subst
    (λ (z : ℕ). greatest parts (stretch_in national roof.shape roof.spans k s.sk (base_code code)) p n
    ≤ greatest parts (stretch_in national roof.shape roof.spans z t.sk (base_code code)) p n)
    (same_factor s t code a)
    (rise_greatest parts (omega arith) _ _ p n
    (formed_in national roof.spans k (base_code code) roof.shape s.sk hk hl f).each
    (formed_in national roof.spans k (base_code code) roof.shape t.sk (omega arith) hl f).each
    (λ i b. rises_in national roof.spans k (base_code code) roof.shape s.sk t.sk i hk h f))

-- "Ce and Ct play no part": an exceptional drift is that of any site with the same ground load
module _ (national : National) (spans : Spans) (sk code i : ℕ) where
  drift_in :
      (shape : Shape) (factor other : ℕ) → names_drift (drifts_of shape) code ≡ true
      → stretch_in national shape spans factor sk code i ≡ stretch_in national shape spans other sk code i
  unfolding stretch_in
  drift_in (Monopitch slope) factor other n = absurd (omega (arith, within_in 31 30 code n))
  drift_in (Pitched left right) factor other n = absurd (omega (arith, within_in 31 30 code n))
  drift_in (MultiSpan count drifts) factor other n = drift_alike spans factor count code n sk other i
  drift_in (Cylindrical arch) factor other n = absurd (omega (arith, within_in 31 30 code n))
  drift_in (Abutting lower) factor other n = absurd (omega (arith, within_in 31 30 code n))
  drift_in (Projection p) factor other n = absurd (omega (arith, within_in 31 30 code n))
  drift_in (Obstructed by) factor other n = refl

pub drift_alone :
    (national : National) (s t : Site) (roof : Roof) (code i : ℕ) → names_drift (drifts_of roof.shape) code ≡ true → s.sk ≡ t.sk
    → stretch national s roof code i ≡ stretch national t roof code i
unfolding stretch factor_of
drift_alone national s t roof code i n e =
    let b = named_base (drifts_of roof.shape) code n in
    rw (← e, b) (drift_in national roof.spans s.sk code i roof.shape (factor_of s code) (factor_of t code) n)

-- every stretch that is not said to be a ramp is of one load, and neighbours of one load each differ in it
module _ (national : National) (site : Site) (roof : Roof) (code : ℕ) where
  pub even_stretch : (i : ℕ) → ramped_in national roof.shape (base_code code) i ≡ false → Level (stretch national site roof code i)
  unfolding stretch
  even_stretch i e = level_in national roof.spans (factor_of site code) (base_code code) roof.shape site.sk i e

  module _ (i : ℕ) (hs : site_refusal site ≡ 0) (k : several_slopes (kind_of roof.shape) (drifts_of roof.shape) (base_code code) ≡ false)
      (c : suc i < count national roof code)
      (e : ramped_in national roof.shape (base_code code) i ≡ false) (e' : ramped_in national roof.shape (base_code code) (suc i) ≡ false) where
    evens_returned : returned (stretch national site roof code i).from ≡ returned (stretch national site roof code (suc i)).from → ⊥
    unfolding stretch count
    evens_returned d =
        let f = site_in site hs in
        apart_in national roof.spans (factor_of site code) site.sk (base_code code) i (factor_positive site code f) (omega (arith, f.sk.low))
        roof.shape k c e e' d

    pub evens_apart : (stretch national site roof code i).from ≡ (stretch national site roof code (suc i)).from → ⊥
    evens_apart d = evens_returned (ap returned d)

    -- in the loads that are returned too, which is all that a segment shows
    pub evens_returned_apart :
        NationalIn national → roof_refusal roof ≡ 0
        → read_in parts (stretch national site roof code i) 0 ≡ read_in parts (stretch national site roof code (suc i)) 0 → ⊥
    evens_returned_apart hn hr d =
        let w = well_formed national site roof code hn hs hr in
        let a = start_load parts (omega arith) _ (w.each i (omega arith)) (even_stretch i e).skip in
        let b = start_load parts (omega arith) _ (w.each (suc i) c) (even_stretch (suc i) e').skip in
        evens_returned (sym a ∙ (d ∙ b))
