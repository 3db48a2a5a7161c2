-- Roofs whose pitches have moved: the kinds that have pitches of their own are told apart in one place; any other roof is as it was.
use Prim.Native.Nat.{ℕ, zero, suc}
use mathlib.Core.Bool.{Bool, true, false, cond}
use mathlib.Core.List.{List, [], ◌∷◌}
use mathlib.Core.Path.{◌≡◌, refl, sym, ap}
use borrow.Author.Tests.{eqb-true}
use lib.Dec.{eqb}
use lib.ListN.{get_or, replicate}
use native.Mathlib.Omega.{arith}
use Rattle.figures.specs.RoofRules.{kind_of, drifts_of, roof_of}
use Rattle.figures.specs.Spans.{flat, level, no_spans, slope_of}
use Rattle.figures.specs.declared.slopes.Slope.{Slope}
use Rattle.figures.specs.declared.slopes.GuardedSlope.{GuardedSlope}
use Rattle.figures.specs.declared.slopes.Spans.{Spans}
use Rattle.figures.specs.declared.roof.Shape.{Shape}
use Rattle.figures.specs.declared.roof.Shape.TheVariants.{Monopitch, Pitched, MultiSpan, Cylindrical, Abutting, Projection, Obstructed}
use Rattle.figures.specs.declared.roof.Roof.{Roof}
use Rattle.moved_pitches.specs.Pitches.{row_with, spans_with, pitch_in, with_pitches, pitch_of, roof_with, pitches_but}
use Rattle.moved_pitches.specs.Pitches.{TenthApart, PitchMoved, PitchesMoved}

abbrev pub sloping : ℕ → ℕ → Slope
sloping pitch width = record { pitch = pitch; width = width }

abbrev pub with_guard : ℕ → ℕ → ℕ → GuardedSlope
with_guard pitch guard width = record { slope = sloping pitch width; guard = guard }

-- kind 2, 8,000 mm wide
abbrev pub one_slope : ℕ → Roof
one_slope pitch = roof_of (Monopitch (with_guard pitch 0 8000)) no_spans

-- kind 3, with a guard on the right
abbrev pub two_slopes : ℕ → ℕ → Roof
two_slopes left right = roof_of (Pitched (with_guard left 0 4000) (with_guard right 1 6000)) no_spans

-- kind 4, with the pitches of the slopes beside its valley
abbrev pub two_spans : ℕ → ℕ → Roof
two_spans left right =
    roof_of (MultiSpan 2 false)
    (record {
      slopes = sloping 300 4000 ∷ sloping left 89420 ∷ sloping right 5000 ∷ sloping 350 7000 ∷ replicate 28 flat;
      valleys = replicate 15 level;
    })

abbrev arch : Roof
arch = roof_of (Cylindrical (record { rise = 1000; span = 8000 })) no_spans

abbrev moved : Roof → ℕ → ℕ → Roof
moved roof slope pitch = roof_with roof (pitches_but roof slope pitch)

-- one pitch is another, and all else is as it was; an arch has none
pub moved_worked :
    moved (one_slope 300) 0 301
    ∷ moved (two_slopes 200 400) 0 199
    ∷ moved (two_slopes 200 400) 1 401
    ∷ moved (two_spans 337 161) 1 338
    ∷ moved (two_spans 337 161) 2 160
    ∷ moved arch 0 1
    ∷ []
    ≡ one_slope 301 ∷ two_slopes 199 400 ∷ two_slopes 200 401 ∷ two_spans 338 161 ∷ two_spans 337 160 ∷ arch ∷ []
unfolding with_pitches pitch_in row_with slope_of
moved_worked = refl

same_tenth : (p : ℕ) → TenthApart p p
same_tenth p = record { up = omega arith; down = omega arith }

tenth_back : (p q : ℕ) → TenthApart p q → TenthApart q p
tenth_back p q a = record { up = a.down; down = a.up }

-- two slopes of one width, their pitches at most a tenth apart
pub record SlopesApart (s t : Slope) : Type 0 where
  pub width : s.width ≡ t.width
  pub pitch : TenthApart s.pitch t.pitch

row_apart :
    (row : List Slope) (p : ℕ → ℕ) → ((i : ℕ) → TenthApart (get_or row i flat).pitch (p i)) → (i : ℕ)
    → SlopesApart (get_or row i flat) (get_or (row_with row p) i flat)
unfolding row_with
row_apart [] p a i = record { width = refl; pitch = same_tenth 0 }
row_apart (slope ∷ row) p a zero = record { width = refl; pitch = a 0 }
row_apart (slope ∷ row) p a (suc i) = row_apart row (λ j. p (suc j)) (λ j. a (suc j)) i

row_back : (row : List Slope) (p : ℕ → ℕ) → row_with (row_with row p) (λ i. (get_or row i flat).pitch) ≡ row
unfolding row_with
row_back [] p = refl
row_back (slope ∷ row) p = ap (λ (r : List Slope). slope ∷ r) (row_back row (λ j. p (suc j)))

module _ (spans : Spans) (p : ℕ → ℕ) where
  pub slopes_apart : ((i : ℕ) → TenthApart (slope_of spans i).pitch (p i)) → (i : ℕ) → SlopesApart (slope_of spans i) (slope_of (spans_with spans p) i)
  unfolding slope_of
  slopes_apart a i = row_apart spans.slopes p a i

  spans_back : spans_with (spans_with spans p) (λ i. (slope_of spans i).pitch) ≡ spans
  unfolding slope_of
  spans_back = ap (λ (r : List Slope). record { slopes = r; valleys = spans.valleys }) (row_back spans.slopes p)

-- a shape without pitches of its own
pub record NoPitch (shape : Shape) : Type 0 where
  pub same : (spans : Spans) (p : ℕ → ℕ) → with_pitches shape spans p ≡ roof_of shape spans

-- what holds of the kinds that have pitches, and of a shape without, holds of every shape
pub every_shape :
    (P : Shape → Type 0)
    → ((slope : GuardedSlope) → P (Monopitch slope)) → ((left right : GuardedSlope) → P (Pitched left right))
    → ((count : ℕ) (drifts : Bool) → P (MultiSpan count drifts)) → ((shape : Shape) → NoPitch shape → P shape) → (shape : Shape) → P shape
unfolding with_pitches pitch_in
every_shape P a b c d (Monopitch slope) = a slope
every_shape P a b c d (Pitched left right) = b left right
every_shape P a b c d (MultiSpan count drifts) = c count drifts
every_shape P a b c d (Cylindrical arch) = d (Cylindrical arch) (record { same = λ s p. refl })
every_shape P a b c d (Abutting lower) = d (Abutting lower) (record { same = λ s p. refl })
every_shape P a b c d (Projection r) = d (Projection r) (record { same = λ s p. refl })
every_shape P a b c d (Obstructed by) = d (Obstructed by) (record { same = λ s p. refl })

-- moved back, it is the shape itself; its kind and drifts are as they were
pub record Kept (shape : Shape) (spans : Spans) (p : ℕ → ℕ) : Type 0 where
  pub kind : kind_of (with_pitches shape spans p).shape ≡ kind_of shape
  pub drifts : drifts_of (with_pitches shape spans p).shape ≡ drifts_of shape
  pub back : roof_with (with_pitches shape spans p) (pitch_in shape spans) ≡ roof_of shape spans
  pub apart :
      ((i : ℕ) → TenthApart (pitch_in shape spans i) (p i)) → (i : ℕ) → TenthApart (pitch_of (with_pitches shape spans p) i) (pitch_in shape spans i)

pub kept : (shape : Shape) (spans : Spans) (p : ℕ → ℕ) → Kept shape spans p
unfolding with_pitches pitch_in
kept =
    every_shape (λ shape. (spans : Spans) (p : ℕ → ℕ) → Kept shape spans p)
    (λ slope spans p. record { kind = refl; drifts = refl; back = refl; apart = λ a i. tenth_back _ _ (a 0) })
    (λ left right spans p. record {
      kind = refl;
      drifts = refl;
      back = refl;
      apart = λ a i. either_apart left.slope.pitch right.slope.pitch (p 0) (p 1) (eqb i 0) (a 0) (a 1);
    })
    (λ count drifts spans p. record {
      kind = refl;
      drifts = refl;
      back = ap (λ (s : Spans). roof_of (MultiSpan count drifts) s) (spans_back spans p);
      apart = λ a i. tenth_back _ _ (slopes_apart spans p a i).pitch;
    })
    (λ shape n spans p. record {
      kind = rw (n.same spans p);
      drifts = rw (n.same spans p);
      back = rw (n.same spans p) (n.same spans (pitch_in shape spans));
      apart = λ a i. rw (n.same spans p) (same_tenth _);
    })
  where
    either_apart : (l r p q : ℕ) (b : Bool) → TenthApart l p → TenthApart r q → TenthApart (cond b p q) (cond b l r)
    either_apart l r p q true a c = tenth_back _ _ a
    either_apart l r p q false a c = tenth_back _ _ c

-- the roof is the other one with its pitches moved back
pub moved_back : (roof other : Roof) → PitchesMoved roof other → PitchesMoved other roof
moved_back roof other m =
    let k = kept roof.shape roof.spans m.pitches in
    rw (m.alike) (record { pitches = pitch_of roof; by_a_tenth = k.apart m.by_a_tenth; alike = sym k.back })

-- where one pitch has moved, each has by a tenth at most
pub one_moved : (roof other : Roof) → PitchMoved roof other → PitchesMoved roof other
one_moved roof other m = record { pitches = pitches_but roof m.slope m.pitch; by_a_tenth = λ i. go i (eqb i m.slope) refl; alike = m.alike }
  where
    go : (i : ℕ) (b : Bool) → eqb i m.slope ≡ b → TenthApart (pitch_of roof i) (cond b m.pitch (pitch_of roof i))
    go i true e = let z : i ≡ m.slope = eqb-true i m.slope e in rw z m.by_a_tenth
    go i false e = same_tenth _
