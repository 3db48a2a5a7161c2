-- A sheet with a map site is listed as the sheet with the kind 1 site of its load.
use Prim.Native.Nat.{ℕ}
use mathlib.Core.List.{List}
use mathlib.Core.Path.{◌≡◌}
use Rattle.listing.specs.Listing.{listing}
use Rattle.listing.proofs.Alike as law
use Rattle.sheet_figures.proofs.MapSites.{alike, same_site}
use Rattle.sheet_figures.specs.MapSites.{GivenLoad}

pub same_listing : (store s t : List ℕ) (n : ℕ) → GivenLoad store s t n → listing store s ≡ listing store t
same_listing store s t n g = law.same_listing (alike store s t n g) (same_site store s t n g)
