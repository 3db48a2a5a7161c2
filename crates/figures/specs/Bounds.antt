-- The bounds that accepted figures keep. The lemmas that give them are `site_in`, `shape_in` and `figures_in` of proofs/Accepted.
use Rattle.std.specs.Prelude.{ℕ, ◌*◌, ◌≤◌, ◌<◌, ◌≡◌}
use Rattle.figures.specs.RoofRules.{roof_refusal}
use Rattle.figures.specs.SiteRules.{site_refusal}
use Rattle.figures.specs.Spans.{slope_of}
use Rattle.figures.specs.declared.national.National.{National}
use Rattle.figures.specs.declared.site.Site.{Site}
use Rattle.figures.specs.declared.slopes.Slope.{Slope}
use Rattle.figures.specs.declared.slopes.GuardedSlope.{GuardedSlope}
use Rattle.figures.specs.declared.slopes.Spans.{Spans}
use Rattle.figures.specs.declared.roof.Arch.{Arch}
use Rattle.figures.specs.declared.roof.AbuttingRoof.{AbuttingRoof}
use Rattle.figures.specs.declared.roof.ProjectionRoof.{ProjectionRoof}
use Rattle.figures.specs.declared.roof.Obstruction.{Obstruction}
use Rattle.figures.specs.declared.roof.Obstruction.TheVariants.{Parapet, SmallProjection}
use Rattle.figures.specs.declared.roof.Shape.{Shape}
use Rattle.figures.specs.declared.roof.Roof.{Roof}
use Rattle.figures.specs.declared.roof.Shape.TheVariants.{Monopitch, Pitched, MultiSpan, Cylindrical, Abutting, Projection, Obstructed}

pub record Within (a b x : ℕ) : Type 0 where
  pub low : a ≤ x
  pub high : x ≤ b

pub record SiteIn (s : Site) : Type 0 where
  pub sk : Within 100 25000 s.sk
  pub ce : Within 80 120 s.ce
  pub ct : Within 1 100 s.ct
  pub cesl : Within 100 300 s.cesl
  pub situation : s.situation ≤ 3
  pub altitude : s.altitude ≤ 1500

-- a set of national figures, of which the recommended is one
pub record NationalIn (n : National) : Type 0 where
  pub arch : Within 1 800 n.arch
  pub low : Within 1 800 n.low
  pub high : Within 1 800 n.high
  pub short : Within 1000 30000 n.short
  pub long : Within 1000 30000 n.long

pub record SlopeIn (s : Slope) : Type 0 where
  pub pitch : s.pitch ≤ 800
  pub width : Within 1 100000 s.width

-- a slope and its guard
pub record GuardedIn (s : GuardedSlope) : Type 0 where
  pub slope : SlopeIn s.slope
  pub guard : s.guard ≤ 1

pub record PitchedIn (l r : GuardedSlope) : Type 0 where
  pub left : GuardedIn l
  pub right : GuardedIn r

pub record MultiSpanIn (n : ℕ) (l : Spans) : Type 0 where
  pub count : Within 2 16 n
  pub spans : (i : ℕ) → i < 2 * n → SlopeIn (slope_of l i)

pub record CylindricalIn (arch : Arch) : Type 0 where
  pub rise : Within 1 15000 arch.rise
  pub span : Within 2 30000 arch.span
  pub half : 2 * arch.rise ≤ arch.span

pub record AbuttingIn (roof : AbuttingRoof) : Type 0 where
  pub upper : Within 1 200000 roof.b1
  pub lower : Within 1 100000 roof.b2
  pub step : Within 1 30000 roof.h
  pub slope : GuardedIn roof.slope

pub record ProjectionIn (p : ProjectionRoof) : Type 0 where
  pub height : Within 1 30000 p.h
  pub left : Within 1 100000 p.left
  pub right : Within 1 100000 p.right

pub record ParapetIn (h b1 b2 : ℕ) : Type 0 where
  pub height : Within 1 30000 h
  pub behind : Within 1 100000 b1
  pub other : Within 1 100000 b2

pub record SmallProjectionIn (h1 h2 b1 b2 : ℕ) : Type 0 where
  pub left_height : Within 1 1000 h1
  pub right_height : Within 1 1000 h2
  pub left : Within 1 100000 b1
  pub right : Within 1 100000 b2

abbrev pub ObstructionIn : Obstruction → Type 0
ObstructionIn (Parapet h b1 b2) = ParapetIn h b1 b2
ObstructionIn (SmallProjection h1 h2 b1 b2) = SmallProjectionIn h1 h2 b1 b2

abbrev pub ShapeIn : Shape → Spans → Type 0
ShapeIn (Monopitch slope) spans = GuardedIn slope
ShapeIn (Pitched left right) spans = PitchedIn left right
ShapeIn (MultiSpan count drifts) spans = MultiSpanIn count spans
ShapeIn (Cylindrical arch) spans = CylindricalIn arch
ShapeIn (Abutting lower) spans = AbuttingIn lower
ShapeIn (Projection p) spans = ProjectionIn p
ShapeIn (Obstructed by) spans = ObstructionIn by

-- figures that no rule on values refuses, under a set of national ones
pub record FiguresIn (n : National) (s : Site) (r : Roof) : Type 0 where
  pub national : NationalIn n
  pub site : site_refusal s ≡ 0
  pub roof : roof_refusal r ≡ 0
