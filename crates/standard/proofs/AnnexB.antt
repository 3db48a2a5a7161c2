-- Requests A2 and A9 in figures, computed from the definitions: the table of codes, and exceptional drifts with readings in them.
use Prim.Native.Nat.{ℕ, zero, suc}
use mathlib.Core.Path.{◌≡◌, refl}
use mathlib.Core.Bool.{cond, true}
use mathlib.Core.List.{List, [], ◌∷◌, ◌++◌}
use lib.ListN.{replicate}
use Rattle.std.specs.Prelude.{None}
use Rattle.figures.specs.RoofRules.{roof_of}
use Rattle.figures.specs.Spans.{flat, level, no_spans, slope_of, valley_of}
use Rattle.figures.specs.declared.site.Site.{Site}
use Rattle.figures.specs.declared.slopes.Slope.{Slope}
use Rattle.figures.specs.declared.roof.Obstruction.{Obstruction}
use Rattle.figures.specs.declared.roof.Obstruction.TheVariants.{Parapet, SmallProjection}
use Rattle.figures.specs.declared.roof.Roof.{Roof}
use Rattle.figures.specs.declared.roof.Shape.TheVariants.{MultiSpan, Obstructed}
use Rattle.rounding.specs.Limit.{smaller}
use Rattle.rounding.specs.Load.{break_load}
use Rattle.rounding.specs.Ramp.{reading}
use Rattle.rounding.specs.Up.{ceil_div, rounded_up}
use Rattle.standard.specs.Arrangements.{count_in, stretch_in, count, stretch, arrangement_in_parts, arrangement, load_in_parts, load_at, factor_of}
use Rattle.standard.specs.Codes.{exists_in}
use Rattle.figures.specs.National.{recommended_figures}
use Rattle.standard.specs.Drift.{peak, drift_row, drift_index, drift, drift_count}
use Rattle.standard.specs.MultiSpan.{widths}
use Rattle.standard.specs.Obstruction.{parapet_length, parapet_peak, side_length, side_peak, obstruction_lengths, left_peak, right_peak, obstructed}
use Rattle.standard.specs.Stretch.{read_in, start_of, segment, segments, lists_joined, holds, reading_at, greatest}
use Rattle.standard.specs.ValleyDrift.{valley_peak, valley_drift, spans_stretch, spans_count}

-- the codes below n that exist, upward
abbrev codes_below : ℕ → ℕ → ℕ → ℕ → List ℕ
codes_below kind situation drifts zero = []
codes_below kind situation drifts (suc n) = codes_below kind situation drifts n ++ cond (exists_in kind situation drifts n) (n ∷ []) []

-- in situations 0, 1, 2, 3; a code has 8 bits
abbrev situations : ℕ → ℕ → List (List ℕ)
situations kind drifts =
    codes_below kind 0 drifts 256 ∷ codes_below kind 1 drifts 256 ∷ codes_below kind 2 drifts 256 ∷ codes_below kind 3 drifts 256 ∷ []

-- kinds 2 to 13, of which 8 and 13 are no roof; kinds 4 and 9 with 3 spans, then kind 9 with 2 and with 16: a drift in each valley
abbrev codes_computed : List (List (List ℕ))
codes_computed =
    situations 2 0
    ∷ situations 3 0
    ∷ situations 4 2
    ∷ situations 5 0
    ∷ situations 6 0
    ∷ situations 7 0
    ∷ situations 8 0
    ∷ situations 9 2
    ∷ situations 9 1
    ∷ situations 9 15
    ∷ situations 10 0
    ∷ situations 11 1
    ∷ situations 12 1
    ∷ situations 13 1
    ∷ []

abbrev fifteen : List ℕ
fifteen = 31 ∷ 32 ∷ 33 ∷ 34 ∷ 35 ∷ 36 ∷ 37 ∷ 38 ∷ 39 ∷ 40 ∷ 41 ∷ 42 ∷ 43 ∷ 44 ∷ 45 ∷ []

abbrev codes_stated : List (List (List ℕ))
codes_stated =
    ((1 ∷ []) ∷ (1 ∷ 11 ∷ []) ∷ (1 ∷ []) ∷ (1 ∷ 11 ∷ []) ∷ [])
    ∷ ((1 ∷ 2 ∷ 3 ∷ []) ∷ (1 ∷ 2 ∷ 3 ∷ 11 ∷ 12 ∷ 13 ∷ []) ∷ (1 ∷ 2 ∷ 3 ∷ []) ∷ (1 ∷ 2 ∷ 3 ∷ 11 ∷ []) ∷ [])
    ∷ ((1 ∷ 2 ∷ []) ∷ (1 ∷ 2 ∷ 11 ∷ 12 ∷ []) ∷ (1 ∷ 2 ∷ []) ∷ (1 ∷ 2 ∷ 11 ∷ []) ∷ [])
    ∷ ((1 ∷ 2 ∷ []) ∷ (1 ∷ 2 ∷ 11 ∷ 12 ∷ []) ∷ (1 ∷ 2 ∷ []) ∷ (1 ∷ 2 ∷ 11 ∷ []) ∷ [])
    ∷ ((1 ∷ 2 ∷ []) ∷ (1 ∷ 2 ∷ 11 ∷ 12 ∷ []) ∷ (1 ∷ 2 ∷ []) ∷ (1 ∷ 2 ∷ 11 ∷ []) ∷ [])
    ∷ ((2 ∷ []) ∷ (2 ∷ []) ∷ (2 ∷ []) ∷ (2 ∷ []) ∷ [])
    ∷ ([] ∷ [] ∷ [] ∷ [] ∷ [])
    ∷ ((1 ∷ 2 ∷ []) ∷ (1 ∷ 2 ∷ 11 ∷ 12 ∷ []) ∷ (1 ∷ 31 ∷ 32 ∷ []) ∷ (1 ∷ 11 ∷ 31 ∷ 32 ∷ []) ∷ [])
    ∷ ((1 ∷ 2 ∷ []) ∷ (1 ∷ 2 ∷ 11 ∷ 12 ∷ []) ∷ (1 ∷ 31 ∷ []) ∷ (1 ∷ 11 ∷ 31 ∷ []) ∷ [])
    ∷ ((1 ∷ 2 ∷ []) ∷ (1 ∷ 2 ∷ 11 ∷ 12 ∷ []) ∷ (1 ∷ fifteen) ∷ (1 ∷ 11 ∷ fifteen) ∷ [])
    ∷ ((1 ∷ 2 ∷ []) ∷ (1 ∷ 2 ∷ 11 ∷ 12 ∷ []) ∷ (1 ∷ 2 ∷ []) ∷ (1 ∷ 2 ∷ 11 ∷ []) ∷ [])
    ∷ ([] ∷ [] ∷ (31 ∷ []) ∷ (31 ∷ []) ∷ [])
    ∷ ([] ∷ [] ∷ (31 ∷ []) ∷ (31 ∷ []) ∷ [])
    ∷ ([] ∷ [] ∷ [] ∷ [] ∷ [])
    ∷ []

pub which_codes : codes_computed ≡ codes_stated
unfolding exists_in
which_codes = refl

-- a site in situation 3 with its own Ce, Ct and Cesl, which play no part
abbrev site : ℕ → Site
site sk = record { sk = sk; ce = 80; ct = 50; cesl = 300; situation = 3; altitude = 0; day = None }

abbrev sloping : ℕ → ℕ → Slope
sloping pitch width = record { pitch = pitch; width = width }

-- three spans of slopes 4,000 and 5,000, 6,001 and 7,000, 3,000 and 8,002, with h and b3 of their two valleys
abbrev roof : ℕ → ℕ → ℕ → ℕ → Roof
roof h b3 h' b3' =
    roof_of (MultiSpan 3 true)
    (record {
      slopes =
          sloping 200 4000 ∷ sloping 300 5000 ∷ sloping 200 6001 ∷ sloping 300 7000 ∷ sloping 200 3000 ∷ sloping 300 8002 ∷ replicate 26 flat;
      valleys = record { h = h; b3 = b3 } ∷ record { h = h'; b3 = b3' } ∷ replicate 13 level;
    })

abbrev drifted : ℕ → Roof → ℕ → List ℕ
drifted sk r code = arrangement recommended_figures (site sk) r code

abbrev read : ℕ → ℕ
read p = load_at recommended_figures (site 1000) (roof 1500 20000 30000 10001) 32 p

-- limited by 2h; by b3, at 2000.2 N/m²; by 5 × sk; readings at the second valley's breaks and between them, one at 1022.7 N/m²
abbrev drifts_computed : List (List ℕ)
drifts_computed =
    drifted 1000 (roof 1500 20000 30000 10001) 31
    ∷ drifted 1000 (roof 1500 20000 30000 10001) 32
    ∷ drifted 400 (roof 1 1 30000 100000) 32
    ∷ (read 60004 ∷ read 60005 ∷ read 74321 ∷ read 88004 ∷ read 100003 ∷ read 132012 ∷ [])
    ∷ []

abbrev drifts_stated : List (List ℕ)
drifts_stated =
    (0 ∷ 16000 ∷ 0 ∷ 0 ∷ 16000 ∷ 36000 ∷ 0 ∷ 3000 ∷ 36000 ∷ 60004 ∷ 3000 ∷ 0 ∷ 60004 ∷ 132012 ∷ 0 ∷ 0 ∷ [])
    ∷ (0 ∷ 60004 ∷ 0 ∷ 0 ∷ 60004 ∷ 88004 ∷ 0 ∷ 2001 ∷ 88004 ∷ 100004 ∷ 2001 ∷ 0 ∷ 100004 ∷ 132012 ∷ 0 ∷ 0 ∷ [])
    ∷ (0 ∷ 60004 ∷ 0 ∷ 0 ∷ 60004 ∷ 88004 ∷ 0 ∷ 2000 ∷ 88004 ∷ 100004 ∷ 2000 ∷ 0 ∷ 100004 ∷ 132012 ∷ 0 ∷ 0 ∷ [])
    ∷ (0 ∷ 1 ∷ 1023 ∷ 2001 ∷ 1 ∷ 0 ∷ [])
    ∷ []

pub which_drifts : drifts_computed ≡ drifts_stated
unfolding
    arrangement_in_parts load_in_parts count stretch count_in stretch_in factor_of spans_count spans_stretch valley_drift valley_peak drift_row peak widths slope_of valley_of
    segments lists_joined segment start_of read_in greatest reading_at holds reading break_load rounded_up ceil_div smaller
which_drifts = refl

-- the drift at an obstruction, and a load read there
abbrev obstructed_roof : Obstruction → Roof
obstructed_roof by = roof_of (Obstructed by) no_spans

abbrev read_at : ℕ → Obstruction → ℕ → ℕ
read_at sk by p = load_at recommended_figures (site sk) (obstructed_roof by) 31 p

-- a parapet limited by b, at 400.02 N/m²; by 8 × sk; by 2h, with b1 shorter than 5h; its drift held to 15,000 mm. A projection with no bare
-- roof on the right; on the left; with bare roof on both sides. Readings beside a parapet and beside a projection
abbrev obstructions_computed : List (List ℕ)
obstructions_computed =
    drifted 150 (obstructed_roof (Parapet 3100 16000 20001)) 31
    ∷ drifted 100 (obstructed_roof (Parapet 600 40000 1)) 31
    ∷ drifted 25000 (obstructed_roof (Parapet 1000 2000 100000)) 31
    ∷ drifted 1000 (obstructed_roof (Parapet 3001 15001 20000)) 31
    ∷ drifted 300 (obstructed_roof (SmallProjection 400 1000 10000 3000)) 31
    ∷ drifted 25000 (obstructed_roof (SmallProjection 1000 1 100 7)) 31
    ∷ drifted 100 (obstructed_roof (SmallProjection 999 7 100000 36)) 31
    ∷ (read_at 150 (Parapet 3100 16000 20001) 0 ∷ read_at 150 (Parapet 3100 16000 20001) 12345 ∷ read_at 150 (Parapet 3100 16000 20001) 60000 ∷ [])
    ∷ (read_at 300 (SmallProjection 400 1000 10000 3000) 31999
    ∷ read_at 300 (SmallProjection 400 1000 10000 3000) 32001
    ∷ read_at 300 (SmallProjection 400 1000 10000 3000) 40000
    ∷ read_at 300 (SmallProjection 400 1000 10000 3000) 52000
    ∷ [])
    ∷ []

abbrev obstructions_stated : List (List ℕ)
obstructions_stated =
    (0 ∷ 60000 ∷ 401 ∷ 0 ∷ 60000 ∷ 64000 ∷ 0 ∷ 0 ∷ [])
    ∷ (0 ∷ 12000 ∷ 800 ∷ 0 ∷ 12000 ∷ 160000 ∷ 0 ∷ 0 ∷ [])
    ∷ (0 ∷ 8000 ∷ 2000 ∷ 0 ∷ [])
    ∷ (0 ∷ 60000 ∷ 2667 ∷ 0 ∷ 60000 ∷ 60004 ∷ 0 ∷ 0 ∷ [])
    ∷ (0 ∷ 32000 ∷ 0 ∷ 0 ∷ 32000 ∷ 40000 ∷ 0 ∷ 800 ∷ 40000 ∷ 52000 ∷ 1500 ∷ 0 ∷ [])
    ∷ (0 ∷ 400 ∷ 0 ∷ 2000 ∷ 400 ∷ 420 ∷ 2 ∷ 0 ∷ 420 ∷ 428 ∷ 0 ∷ 0 ∷ [])
    ∷ (0 ∷ 380020 ∷ 0 ∷ 0 ∷ 380020 ∷ 400000 ∷ 0 ∷ 500 ∷ 400000 ∷ 400140 ∷ 14 ∷ 0 ∷ 400140 ∷ 400144 ∷ 0 ∷ 0 ∷ [])
    ∷ (401 ∷ 318 ∷ 0 ∷ [])
    ∷ (0 ∷ 1 ∷ 1500 ∷ 0 ∷ [])
    ∷ []

pub which_obstructions : obstructions_computed ≡ obstructions_stated
unfolding
    arrangement_in_parts load_in_parts count stretch count_in stretch_in factor_of obstructed obstruction_lengths left_peak right_peak parapet_length parapet_peak
    side_length side_peak drift drift_row drift_index drift_count peak segments lists_joined segment start_of read_in greatest reading_at holds reading break_load rounded_up ceil_div
    smaller
which_obstructions = refl
