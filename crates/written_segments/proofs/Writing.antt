-- Four numbers at a place of a slice, and one segment more at the end of those written.
use Prim.Native.Nat.{ℕ, ◌+◌, ◌-◌, ◌*◌}
use mathlib.Core.Path.{◌≡◌, sym, ◌∙◌}
use mathlib.Core.List.{List, [], ◌∷◌, ◌++◌, append_assoc}
use borrow.Rule.Slice.PartMut.{put_mid, Post-is}
use lib.ListN.{length, take, drop}
use lib.Seq.{take_at, drop-append-add, drop-drop}
use native.Mathlib.Numerals.{add-one}
use native.Mathlib.Omega.{arith}
use Rattle.ramps.specs.Ramps.{RoundedStretch, ramp_of, read_ramp}
use Rattle.standard.specs.Stretch.{Stretch, read_in, start_of, segment, segments, lists_joined}
use Rattle.standard.specs.Units.{parts}
use Rattle.standard.proofs.Segments.{segments_length}

-- four numbers behind those done, of a slice that has its old contents behind them
more :
    (done old out four : List ℕ) (i : ℕ) → length done ≡ 4 * i → out ≡ done ++ drop (4 * i) old
    → take (4 * i) out ++ four ++ drop (4 * i + 4) out ≡ done ++ four ++ drop (4 * (i + 1)) old
more done old out four i len e =
    let e₁ : take (4 * i) (done ++ drop (4 * i) old) ≡ done = take_at done (drop (4 * i) old) (4 * i) len in
    let e₂ : drop (length done + 4) (done ++ drop (4 * i) old) ≡ drop (4 * i + 4) old =
    drop-append-add done (drop (4 * i) old) 4 ∙ drop-drop 4 (4 * i) old in
    let e₃ : drop (4 * i + 4) (done ++ drop (4 * i) old) ≡ drop (4 * i + 4) old = rw len at e₂ in
    let e₄ : 4 * (i + 1) ≡ 4 * i + 4 = omega arith in
    rw (e, e₁, e₃, e₄)

module _ (S : ℕ → Stretch) where
  pub one_more :
      (old out four : List ℕ) (i : ℕ) → four ≡ segment parts S i → out ≡ segments parts S i ++ drop (4 * i) old
      → put_mid (4 * i) (4 * i + 4 - 4 * i) out four ≡ segments parts S (i + 1) ++ drop (4 * (i + 1)) old
  unfolding segments lists_joined
  one_more old out four i f e =
      let behind = Post-is (4 * i) (4 * i + 4) out (omega arith) in
      rw behind
      (sym (append_assoc (take (4 * i) out) four (drop (4 * i + 4) out))
      ∙ more (segments parts S i) old out four i (segments_length parts S i) e
      ∙ rw (add-one i, f))

  -- a segment from its ramp and its start
  module _ (i start : ℕ) (r : RoundedStretch) (es : start ≡ start_of S i) (er : r ≡ ramp_of (S i)) where
    pub segment_is :
        (s e a b : ℕ) → s ≡ start → e ≡ start + r.extent → a ≡ read_ramp r 0 → b ≡ read_ramp r r.extent → s ∷ e ∷ a ∷ b ∷ [] ≡ segment parts S i
    unfolding segment read_in read_ramp ramp_of
    segment_is s e a b d f p q = rw (d, f, p, q, es, er)
