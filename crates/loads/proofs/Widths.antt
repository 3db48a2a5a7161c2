-- Where halving ends, the wider number is the least that reaches.
use Prim.Native.Nat.{ℕ, ◌+◌, ◌*◌, ◌≤◌, ◌<◌}
use mathlib.Core.Path.{◌≡◌, refl, sym, ◌∙◌}
use mathlib.Core.Bool.{Bool, true, false}
use borrow.Author.Tests.{le-leb}
use native.Mathlib.Omega.{arith}
use Rattle.standard.specs.Cylindrical.{wide_enough, loaded_width}
use Rattle.standard.proofs.Cylindrical.{wide_enough_mono, nothing_not_wide, least_unique, steep_width}

refuted : (b : Bool) → (b ≡ true → ⊥) → b ≡ false
refuted true f = absurd (f refl)
refuted false f = refl

module _ (rise span : ℕ) where
  pub none_reaches : 0 < rise → wide_enough rise span 0 ≡ false
  none_reaches h = refuted _ (nothing_not_wide rise span h)

  shorter : (short m : ℕ) → wide_enough rise span short ≡ false → m ≤ short → wide_enough rise span m ≡ false
  shorter short m e h =
      refuted _
      (λ t.
      let u : wide_enough rise span short ≡ true = wide_enough_mono rise span m short h t in
      let z : ◌≡◌ {A = ℕ} 0 1 = cc in
      omega arith)

  pub halved_out :
      (short wide : ℕ) → span * span < 12 * (rise * rise) → wide_enough rise span short ≡ false → wide_enough rise span wide ≡ true
      → wide ≤ short + 1 → wide ≤ span → wide ≡ loaded_width rise span
  halved_out short wide steep e f h k =
      sym (steep_width rise span steep ∙ least_unique rise span wide f (λ m lt. shorter short m e (omega arith)) k)

  pub shallow_width : 12 * (rise * rise) ≤ span * span → span ≡ loaded_width rise span
  unfolding loaded_width
  shallow_width h = rw (le-leb (12 * (rise * rise)) (span * span) h)
