-- Accepted figures keep their bounds.
use Prim.Native.Nat.{ℕ, zero, suc, ◌*◌, ◌≤◌, ◌<◌}
use mathlib.Core.Path.{◌≡◌}
use mathlib.Core.Bool.{Bool, true, false, not, ◌&&◌}
use mathlib.Core.Logic.{⊎_elim}
use borrow.Author.Tests.{leb-true, ltb-false, not-false}
use lib.Dec.{leb, ltb}
use native.Mathlib.Nat.{eq-or-lt_of_le}
use native.Mathlib.Omega.{arith}
use Rattle.figures.specs.Bounds.{Within, SiteIn, SlopeIn, GuardedIn, ObstructionIn, ShapeIn}
use Rattle.figures.specs.Ranges.{within}
use Rattle.figures.specs.Rules.{refused_if}
use Rattle.figures.specs.SiteRules.{ground_field, other_fields, site_fields, site_refusal}
use Rattle.figures.specs.RoofRules.{drifts_of, slope_fields, guarded_fields, slopes_fields, span_fields, widest_upper, projection_fields, obstruction_fields, shape_refusal}
use Rattle.figures.specs.Spans.{slope_of}
use Rattle.figures.specs.declared.site.Site.{Site}
use Rattle.figures.specs.declared.slopes.Slope.{Slope}
use Rattle.figures.specs.declared.slopes.GuardedSlope.{GuardedSlope}
use Rattle.figures.specs.declared.slopes.Spans.{Spans}
use Rattle.figures.specs.declared.roof.Obstruction.{Obstruction}
use Rattle.figures.specs.declared.roof.Obstruction.TheVariants.{Parapet, SmallProjection}
use Rattle.figures.specs.declared.roof.Shape.{Shape}
use Rattle.figures.specs.declared.roof.Shape.TheVariants.{Monopitch, Pitched, MultiSpan, Cylindrical, Abutting, Projection, Obstructed}
use Rattle.figures.proofs.Laws.{both, within_in, kept, none_broken}

pub range : (low high x : ℕ) → within low high x ≡ true → Within low high x
range low high x h =
    let p = within_in low high x h in
    record { low = p.0; high = p.1 }

-- a field rule whose number is 0 is kept
pub sound : (fields : Bool) (number : ℕ) → 0 < number → refused_if (not fields) number ≡ 0 → fields ≡ true
sound fields number p h = not-false fields (kept (not fields) number p h)

pub site_in : (s : Site) → site_refusal s ≡ 0 → SiteIn s
unfolding site_refusal
site_in s h =
    let p = none_broken _ _ h in
    let a = kept (ltb 1500 s.altitude) 7 (omega arith) p.1 in
    let f = sound (site_fields s) 6 (omega arith) p.0 in
    let f₃ = both (ground_field s.sk) (other_fields s.ce s.ct s.cesl s.situation) f in
    let f₂ = both (within 80 120 s.ce && within 1 100 s.ct && within 100 300 s.cesl) (leb s.situation 3) f₃.1 in
    let f₁ = both (within 80 120 s.ce && within 1 100 s.ct) (within 100 300 s.cesl) f₂.0 in
    let f₀ = both (within 80 120 s.ce) (within 1 100 s.ct) f₁.0 in
    record {
      sk = range 100 25000 s.sk f₃.0;
      ce = range 80 120 s.ce f₀.0;
      ct = range 1 100 s.ct f₀.1;
      cesl = range 100 300 s.cesl f₁.1;
      situation = leb-true s.situation 3 f₂.1;
      altitude = ltb-false 1500 s.altitude a;
    }

slope_in : (s : Slope) → slope_fields s ≡ true → SlopeIn s
slope_in s h =
    let p = both (leb s.pitch 800) (within 1 100000 s.width) h in
    record { pitch = leb-true s.pitch 800 p.0; width = range 1 100000 s.width p.1 }

guarded_in : (s : GuardedSlope) → guarded_fields s ≡ true → GuardedIn s
guarded_in s h =
    let p = both (slope_fields s.slope) (leb s.guard 1) h in
    record { slope = slope_in s.slope p.0; guard = leb-true s.guard 1 p.1 }

each_slope : (l : Spans) (n : ℕ) → slopes_fields l n ≡ true → (i : ℕ) → i < n → SlopeIn (slope_of l i)
unfolding slopes_fields
each_slope l zero h i lt = absurd (omega arith)
each_slope l (suc n) h i lt =
    let p = both (slopes_fields l n) (slope_fields (slope_of l n)) h in
    ⊎_elim
    (λ (same : i ≡ n). rw same (slope_in (slope_of l n) p.1))
    (λ (below : i < n). each_slope l n p.0 i below)
    (eq-or-lt_of_le {n = i} {m = n} (omega arith))

-- the width above a lower roof of either kind
widest : (stepped : Bool) (b1 : ℕ) → within 1 (widest_upper stepped) b1 ≡ true → Within 1 200000 b1
widest true b1 h = range 1 200000 b1 h
widest false b1 h =
    let p = range 1 100000 b1 h in
    record { low = p.low; high = omega (arith, p.high) }

-- a height and two widths
heights : (h left right : ℕ) → projection_fields h left right ≡ true → Within 1 30000 h × Within 1 100000 left × Within 1 100000 right
heights h left right e =
    let p = both (within 1 30000 h && within 1 100000 left) (within 1 100000 right) e in
    let q = both (within 1 30000 h) (within 1 100000 left) p.0 in
    (range 1 30000 h q.0, range 1 100000 left q.1, range 1 100000 right p.1)

obstruction_in : (by : Obstruction) → obstruction_fields by ≡ true → ObstructionIn by
obstruction_in (Parapet h b1 b2) e =
    let p = heights h b1 b2 e in
    record { height = p.0; behind = p.1; other = p.2 }
obstruction_in (SmallProjection h1 h2 b1 b2) e =
    let p = both (within 1 1000 h1 && within 1 1000 h2 && within 1 100000 b1) (within 1 100000 b2) e in
    let q = both (within 1 1000 h1 && within 1 1000 h2) (within 1 100000 b1) p.0 in
    let r = both (within 1 1000 h1) (within 1 1000 h2) q.0 in
    record {
      left_height = range 1 1000 h1 r.0;
      right_height = range 1 1000 h2 r.1;
      left = range 1 100000 b1 q.1;
      right = range 1 100000 b2 p.1;
    }

-- what the rules tell, kind by kind
pub shape_in : (sh : Shape) (l : Spans) → shape_refusal sh l ≡ 0 → ShapeIn sh l
unfolding shape_refusal
shape_in (Monopitch slope) l h = guarded_in slope (sound _ 8 (omega arith) h)
shape_in (Pitched left right) l h =
    let p = both (guarded_fields left) (guarded_fields right) (sound _ 8 (omega arith) h) in
    record { left = guarded_in left p.0; right = guarded_in right p.1 }
shape_in (MultiSpan count drifts) l h =
    let p = both (within 2 16 count) (span_fields drifts l count) (sound _ 8 (omega arith) (none_broken _ _ h).0) in
    record { count = range 2 16 count p.0; spans = each_slope l (2 * count) (both (slopes_fields l (2 * count)) _ p.1).0 }
shape_in (Cylindrical arch) l h =
    let b = none_broken _ _ h in
    let p = both (within 1 15000 arch.rise) (within 2 30000 arch.span) (sound _ 8 (omega arith) b.0) in
    record {
      rise = range 1 15000 arch.rise p.0;
      span = range 2 30000 arch.span p.1;
      half = ltb-false arch.span (2 * arch.rise) (kept _ 10 (omega arith) b.1);
    }
shape_in (Abutting lower) l e =
    let upper = within 1 (widest_upper lower.stepped) lower.b1 in
    let p = both (upper && within 1 100000 lower.b2 && within 1 30000 lower.h) (guarded_fields lower.slope) (sound _ 8 (omega arith) e) in
    let q = both (upper && within 1 100000 lower.b2) (within 1 30000 lower.h) p.0 in
    let r = both upper (within 1 100000 lower.b2) q.0 in
    record {
      upper = widest lower.stepped lower.b1 r.0;
      lower = range 1 100000 lower.b2 r.1;
      step = range 1 30000 lower.h q.1;
      slope = guarded_in lower.slope p.1;
    }
shape_in (Projection p) l e =
    let f = heights p.h p.left p.right (sound _ 8 (omega arith) e) in
    record { height = f.0; left = f.1; right = f.2 }
shape_in (Obstructed by) l e = obstruction_in by (sound (obstruction_fields by) 8 (omega arith) e)

-- no roof has more than 15 drifts
pub few_drifts : (sh : Shape) (l : Spans) → ShapeIn sh l → drifts_of sh ≤ 15
few_drifts (Monopitch slope) l f = omega arith
few_drifts (Pitched left right) l f = omega arith
few_drifts (MultiSpan count drifts) l f = omega (arith, f.count.high)
few_drifts (Cylindrical arch) l f = omega arith
few_drifts (Abutting lower) l f = omega arith
few_drifts (Projection p) l f = omega arith
few_drifts (Obstructed by) l f = omega arith
