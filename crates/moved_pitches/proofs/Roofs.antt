-- A pitch moved by a tenth moves the exact rule by at most X/375, and a reading by less than X/375 + 1.2 N/m²; where each pitch moves, the same.
use Prim.Native.Nat.{ℕ, ◌+◌, ◌<◌, ◌≤◌}
use mathlib.Core.Path.{◌≡◌, subst}
use native.Mathlib.Omega.{arith}
use Rattle.figures.specs.Bounds.{NationalIn}
use Rattle.figures.specs.RoofRules.{roof_refusal}
use Rattle.figures.specs.SiteRules.{site_refusal}
use Rattle.figures.specs.declared.national.National.{National}
use Rattle.figures.specs.declared.site.Site.{Site}
use Rattle.figures.specs.declared.roof.Roof.{Roof}
use Rattle.figures.proofs.Accepted.{shape_in}
use Rattle.rounding.specs.Up.{rounded_up}
use Rattle.standard.specs.Arrangements.{exists, count, stretch, end_of, load_in_parts, load_at, exact_at}
use Rattle.standard.specs.Codes.{base_code}
use Rattle.standard.specs.Stretch.{read_in}
use Rattle.standard.specs.Units.{parts}
use Rattle.standard.proofs.Demand.{well_formed}
use Rattle.standard.proofs.Runs.{Readable, same_start}
use Rattle.moved_pitches.specs.Apart.{AtMostAbove, ExactApart, tenth_cost, ReadingsApart, WholeApart, SegmentsApart}
use Rattle.moved_pitches.specs.Pitches.{PitchMoved, PitchesMoved}
use Rattle.moved_pitches.proofs.Apart.{whole_apart}
use Rattle.moved_pitches.proofs.Coefficients.{tenth_positive}
use Rattle.moved_pitches.proofs.Shapes.{kept, moved_back, one_moved}
use Rattle.moved_pitches.proofs.Runs.{Above, read_in_above, exact_greatest_above, greatest_above}
use Rattle.moved_pitches.proofs.Stretches.{stretches_above, counts_same, ends_same}

module _ (roof other : Roof) (m : PitchesMoved roof other) where
  -- the same arrangements, as long and of as many segments
  pub same_codes : (site : Site) (code : ℕ) → exists site other code ≡ exists site roof code
  unfolding exists
  same_codes site code = let k = kept roof.shape roof.spans m.pitches in rw (m.alike, k.kind, k.drifts)

  pub same_end : end_of other ≡ end_of roof
  unfolding end_of
  same_end = rw (m.alike) (ends_same roof.spans m.pitches roof.shape m.by_a_tenth)

  pub same_count : (national : National) (code : ℕ) → count national other code ≡ count national roof code
  unfolding count
  same_count national code = rw (m.alike) (counts_same roof.spans m.pitches national (base_code code) roof.shape)

module _ (national : National) (site : Site) (code : ℕ) (hn : NationalIn national) (hs : site_refusal site ≡ 0) where
  -- the roof's loads against the other's
  module _ (roof other : Roof) (hr : roof_refusal roof ≡ 0) (ho : roof_refusal other ≡ 0) (m : PitchesMoved roof other) where
    above : (i : ℕ) → Above (tenth_cost site code) (stretch national site roof code i) (stretch national site other code i)
    unfolding stretch
    above i = rw (m.alike) (stretches_above roof.spans m.pitches national site code (base_code code) i roof.shape (shape_in roof.shape roof.spans hr) m.by_a_tenth)

    own_readable : (i : ℕ) → i < count national roof code → Readable (stretch national site roof code i)
    own_readable = (well_formed national site roof code hn hs hr).each

    readable : (i : ℕ) → i < count national roof code → Readable (stretch national site other code i)
    readable i h = (well_formed national site other code hn hs ho).each i (rw (same_count roof other m national code) h)

    exact_above : (p : ℕ) → AtMostAbove (tenth_cost site code) (exact_at national site roof code p) (exact_at national site other code p)
    unfolding exact_at
    exact_above p =
        rw (same_count roof other m national code)
        (exact_greatest_above (tenth_cost site code) (tenth_positive site code) _ _ p _ own_readable readable (λ i h. above i))

    load_above : (p : ℕ) → load_at national site roof code p ≤ load_at national site other code p + rounded_up 1 (tenth_cost site code)
    unfolding load_in_parts
    load_above p =
        rw (same_count roof other m national code)
        (greatest_above (tenth_cost site code) (tenth_positive site code) _ _ p _ own_readable readable (λ i h. above i) parts (omega arith))

    segment_above :
        (i x : ℕ) → i < count national roof code → x ≤ (stretch national site roof code i).extent
        → read_in parts (stretch national site roof code i) x ≤ read_in parts (stretch national site other code i) x + rounded_up 1 (tenth_cost site code)
    segment_above i x h b =
        read_in_above (tenth_cost site code) _ _ x (own_readable i h) b (above i) parts (omega arith) (tenth_positive site code) (readable i h)

  module _ (roof other : Roof) (hr : roof_refusal roof ≡ 0) (ho : roof_refusal other ≡ 0) (m : PitchesMoved roof other) where
    pub exact_moves : (p : ℕ) → ExactApart (tenth_cost site code) (exact_at national site roof code p) (exact_at national site other code p)
    exact_moves p = record { up = exact_above roof other hr ho m p; down = exact_above other roof ho hr (moved_back roof other m) p }

    pub whole_moves : (p : ℕ) → WholeApart (tenth_cost site code) (load_at national site roof code p) (load_at national site other code p)
    whole_moves p = record { up = load_above roof other hr ho m p; down = load_above other roof ho hr (moved_back roof other m) p }

    -- the segments of the arrangement
    pub segments_move :
        (i : ℕ) → i < count national roof code
        → SegmentsApart (WholeApart (tenth_cost site code)) (stretch national site roof code) (stretch national site other code) i
    segments_move i h =
        let S = stretch national site roof code in
        let T = stretch national site other code in
        let e : (S i).extent ≡ (T i).extent = (above roof other hr ho m i).extent in
        let k : i < count national other code = rw (same_count roof other m national code) h in
        let up = segment_above roof other hr ho m i in
        let down = segment_above other roof ho hr (moved_back roof other m) i in
        record {
          start = same_start _ _ i (λ j l. above roof other hr ho m j);
          length = e;
          first = record { up = up 0 h (omega arith); down = down 0 k (omega arith) };
          last =
              subst (λ (x : ℕ). WholeApart (tenth_cost site code) (read_in parts (S i) (S i).extent) (read_in parts (T i) x)) e
              (record { up = up _ h (omega arith); down = down _ k (omega (arith, e)) });
        }

  -- "one pitch moved by a tenth, with both roofs accepted, must move a reading by less than X/375 + 1.2 N/m²"
  pub reading_moves :
      (roof other : Roof) → roof_refusal roof ≡ 0 → roof_refusal other ≡ 0 → PitchMoved roof other → (p : ℕ)
      → ReadingsApart (tenth_cost site code) (load_at national site roof code p) (load_at national site other code p)
  reading_moves roof other hr ho m p = whole_apart _ _ _ (tenth_positive site code) (whole_moves roof other hr ho (one_moved roof other m) p)
