-- Where a segment starts: the next one starts where it ends, and no start lies past the largest position.
use Prim.Native.Nat.{ℕ, suc, ◌+◌, ◌≤◌, ◌<◌}
use mathlib.Core.Path.{◌≡◌}
use native.Mathlib.Omega.{arith}
use Rattle.figures.specs.declared.site.Site.{Site}
use Rattle.figures.specs.declared.roof.Roof.{Roof}
use Rattle.standard.specs.Arrangements.{count, stretch}
use Rattle.figures.specs.Bounds.{FiguresIn}
use Rattle.standard.specs.Stretch.{Stretch, start_of}
use Rattle.standard.specs.Units.{largest_position}
use Rattle.figures.specs.declared.national.National.{National}
use Rattle.standard.proofs.Demand.{start_on_roof, end_in_range}
use Rattle.ramps.specs.Ramps.{RoundedStretch, ramp_of}

pub next_start :
    (S : ℕ → Stretch) (i start : ℕ) (r : RoundedStretch) → start ≡ start_of S i → r ≡ ramp_of (S i) → start + r.extent ≡ start_of S (suc i)
unfolding start_of ramp_of
next_start S i start r es er = rw (es, er)

module _ (national : National) (site : Site) (roof : Roof) (code : ℕ) (h : FiguresIn national site roof) where
  pub start_most :
      (i start : ℕ) → i ≤ count national roof code → start ≡ start_of (stretch national site roof code) i → start ≤ largest_position
  start_most i start p e =
      let on_roof = start_on_roof national site roof code h.national h.site h.roof i p in
      omega (arith, end_in_range national site roof code h.national h.site h.roof)

  pub next_most :
      (i start : ℕ) (r : RoundedStretch) → i < count national roof code → start ≡ start_of (stretch national site roof code) i
      → r ≡ ramp_of (stretch national site roof code i) → start + r.extent ≤ largest_position
  next_most i start r p es er = start_most (suc i) (start + r.extent) p (next_start _ i start r es er)
