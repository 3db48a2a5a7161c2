-- What is worked out once for an arrangement of accepted figures.
use Rattle.std.specs.Prelude.{ℕ, ◌≡◌}
use Rattle.figures.specs.declared.accepted_figures.AcceptedFigures.{AcceptedFigures}
use Rattle.standard.specs.Arrangements.{factor_of, count}
use Rattle.standard.specs.Codes.{base_code}

-- the persistent code of the same shape, the factor on the loads and the ground load, and the number of segments
pub record Arranged (f : AcceptedFigures) (code persistent factor sk n : ℕ) : Type 0 where
  pub code_is : persistent ≡ base_code code
  pub factor_is : factor ≡ factor_of f.site code
  pub sk_is : sk ≡ f.site.sk
  pub count_is : n ≡ count f.national f.roof code
