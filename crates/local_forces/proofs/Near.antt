-- Whatever answer is the one owed lies as near as is owed.
use Prim.Native.Nat.{ℕ}
use mathlib.Core.List.{List}
use mathlib.Core.Path.{◌≡◌}
use Rattle.figures.specs.Slopes.{slope_at}
use Rattle.figures.specs.declared.site.Site.{Site}
use Rattle.figures.specs.declared.roof.Roof.{Roof}
use Rattle.standard.specs.Forces.{Force, larger_unrounded, overhang_answer, overhang_distance, guard_answer, guard_distance}
use Rattle.standard.proofs.Forces.{overhang_answers, guard_answers}

module _ (store : List ℕ) (site : Site) (roof : Roof) (n : ℕ) (f : Force) where
  pub overhang_near : f ≡ overhang_answer store site roof n → overhang_distance f (larger_unrounded site roof.shape) (slope_at roof.shape n)
  overhang_near e = rw e (overhang_answers store site roof n)

  pub guard_near : f ≡ guard_answer store site roof n → guard_distance f site (slope_at roof.shape n)
  guard_near e = rw e (guard_answers store site roof n)
