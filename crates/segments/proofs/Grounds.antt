-- The factor and the ground load of an accepted site are within their sizes.
use Prim.Native.Nat.{ℕ, ◌≤◌}
use mathlib.Core.Path.{◌≡◌}
use native.Mathlib.Omega.{arith}
use Rattle.figures.specs.SiteRules.{site_refusal}
use Rattle.figures.specs.declared.site.Site.{Site}
use Rattle.figures.proofs.Accepted.{site_in}
use Rattle.loads.specs.Sizes.{GroundIn}

pub grounded : (s : Site) (f : ℕ) → site_refusal s ≡ 0 → f ≤ 3600000 → GroundIn f s.sk
grounded s f h p =
    let k = (site_in s h).sk in
    record { factor = p; sk = record { low = omega (arith, k.low); high = k.high } }
