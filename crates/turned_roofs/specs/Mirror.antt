-- A run of stretches read from its other end.
use Rattle.std.specs.Prelude.{ℕ, suc, ◌+◌, ◌≡◌}
use Rattle.standard.specs.Stretch.{Stretch}

-- one stretch from its two ends: its loads change places, and what the second skips of the uncut ramp is what the first leaves of it
pub record Mirror (s t : Stretch) : Type 0 where
  pub extent : s.extent ≡ t.extent
  pub full : s.full ≡ t.full
  pub skips : s.skip + s.extent + t.skip ≡ s.full
  pub from : s.from ≡ t.to
  pub to : s.to ≡ t.from

-- one run of n stretches from its two ends: stretch i from the left is stretch i from the right of the other
pub record MirrorRun (S T : ℕ → Stretch) (n : ℕ) : Type 0 where
  pub each : (i j : ℕ) → suc (i + j) ≡ n → Mirror (S i) (T j)
