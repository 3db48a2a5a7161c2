-- The sizes at which no product wraps. Accepted figures keep them.
use Rattle.std.specs.Prelude.{ℕ, ◌*◌, ◌≤◌}
use Rattle.figures.specs.Bounds.{Within}

-- Ce × Ct × Cesl in millionths, and the ground load
pub record GroundIn (f s : ℕ) : Type 0 where
  pub factor : f ≤ 3600000
  pub sk : Within 1 25000 s

-- a coefficient m / d of at most 80
pub record Sized (m d : ℕ) : Type 0 where
  pub top : m ≤ 30000000
  pub bottom : Within 1 20000000 d
  pub most : m ≤ 80 * d
