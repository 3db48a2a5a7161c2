-- Shapes from their other end: the kinds that have one are told apart in one place; every other shape is as it is.
use Prim.Native.Nat.{ℕ, ◌-◌, ◌*◌}
use mathlib.Core.Path.{◌≡◌, refl}
use mathlib.Core.Bool.{Bool, true, false, cond}
use Rattle.figures.specs.RoofRules.{kind_of, drifts_of, roof_of}
use Rattle.figures.specs.Spans.{no_spans}
use Rattle.figures.specs.declared.slopes.GuardedSlope.{GuardedSlope}
use Rattle.figures.specs.declared.slopes.Spans.{Spans}
use Rattle.figures.specs.declared.roof.ProjectionRoof.{ProjectionRoof}
use Rattle.figures.specs.declared.roof.Obstruction.TheVariants.{Parapet, SmallProjection}
use Rattle.figures.specs.declared.roof.Shape.{Shape}
use Rattle.figures.specs.declared.roof.Shape.TheVariants.{Monopitch, Pitched, MultiSpan, Cylindrical, Abutting, Projection, Obstructed}
use Rattle.turned_roofs.specs.Turned.{spans_reversed, mirrored, is_mirrored}
use Rattle.turned_roofs.proofs.Rows.{row_twice}

-- 20.0° without a guard on the left, 40.0° with one on the right
abbrev left_slope : GuardedSlope
left_slope = record { slope = record { pitch = 200; width = 4000 }; guard = 0 }

abbrev right_slope : GuardedSlope
right_slope = record { slope = record { pitch = 400; width = 6000 }; guard = 1 }

pub pitched_worked : mirrored (Pitched left_slope right_slope) no_spans ≡ roof_of (Pitched right_slope left_slope) no_spans
unfolding mirrored
pitched_worked = refl

-- what holds of the kinds that have another end, and of a shape that is as it is from there, holds of every shape
pub every_shape :
    (P : Shape → Type 0)
    → ((left right : GuardedSlope) → P (Pitched left right)) → ((count : ℕ) (drifts : Bool) → P (MultiSpan count drifts))
    → ((p : ProjectionRoof) → P (Projection p)) → ((h1 h2 b1 b2 : ℕ) → P (Obstructed (SmallProjection h1 h2 b1 b2)))
    → ((shape : Shape) → ((spans : Spans) → mirrored shape spans ≡ roof_of shape spans) → is_mirrored (kind_of shape) ≡ false → P shape)
    → (shape : Shape) → P shape
unfolding mirrored
every_shape P a b c d r (Monopitch slope) = r (Monopitch slope) (λ s. refl) refl
every_shape P a b c d r (Pitched left right) = a left right
every_shape P a b c d r (MultiSpan count drifts) = b count drifts
every_shape P a b c d r (Cylindrical arch) = r (Cylindrical arch) (λ s. refl) refl
every_shape P a b c d r (Abutting lower) = r (Abutting lower) (λ s. refl) (lower_kind lower.stepped)
  where
    lower_kind : (stepped : Bool) → is_mirrored (cond stepped 10 6) ≡ false
    lower_kind true = refl
    lower_kind false = refl
every_shape P a b c d r (Projection p) = c p
every_shape P a b c d r (Obstructed (Parapet h b1 b2)) = r (Obstructed (Parapet h b1 b2)) (λ s. refl) refl
every_shape P a b c d r (Obstructed (SmallProjection h1 h2 b1 b2)) = d h1 h2 b1 b2

pub spans_twice : (spans : Spans) (n : ℕ) → spans_reversed (spans_reversed spans n) n ≡ spans
unfolding spans_reversed
spans_twice spans n = rw (row_twice spans.slopes (2 * n), row_twice spans.valleys (n - 1))

-- a shape keeps its kind and the number of its drifts, and twice is the roof itself
pub record Kept (shape : Shape) (spans : Spans) : Type 0 where
  pub kind : kind_of (mirrored shape spans).shape ≡ kind_of shape
  pub drifts : drifts_of (mirrored shape spans).shape ≡ drifts_of shape
  pub twice : mirrored (mirrored shape spans).shape (mirrored shape spans).spans ≡ roof_of shape spans

pub kept : (shape : Shape) (spans : Spans) → Kept shape spans
unfolding mirrored
kept =
    every_shape (λ shape. (spans : Spans) → Kept shape spans)
    (λ left right spans. record { kind = refl; drifts = refl; twice = refl })
    (λ count drifts spans. record { kind = refl; drifts = refl; twice = rw (spans_twice spans count) })
    (λ p spans. record { kind = refl; drifts = refl; twice = refl })
    (λ h1 h2 b1 b2 spans. record { kind = refl; drifts = refl; twice = refl })
    (λ shape same off spans. record { kind = rw (same spans); drifts = rw (same spans); twice = rw (same spans) (same spans) })
