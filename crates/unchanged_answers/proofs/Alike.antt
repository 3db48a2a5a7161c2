-- Sheets with the same verdict, figures, listing and sheet in the one way: every call answers alike.
use Prim.Native.Nat.{ℕ}
use mathlib.Core.List.{List}
use mathlib.Core.Path.{◌≡◌, refl, ap, ◌∙◌}
use lib.ListN.{length}
use Rattle.answer_codes.specs.Codes.{answer_code}
use Rattle.canonical_sheets.specs.Canonical.{canonical, canonical_answer, canonical_after, archived_by, archived}
use Rattle.ceilings.specs.Ceilings.{terminals}
use Rattle.item_answers.specs.Calls.{make_code, slice_after, segment_count_code, segment_code, segment_after, load_code, overhang_code, guard_code}
use Rattle.listing.specs.Listing.{listing, listed, bytes_after}
use Rattle.pairs.specs.Pairs.{Answer, accepted, refused}
use Rattle.sheet.specs.Sheet.{sheet_verdict}
use Rattle.sheet_figures.specs.Find.{AtIndex, found}
use Rattle.unchanged_answers.specs.Alike.{SheetAlike}

module _
    (a s b t : List ℕ) (verdict : sheet_verdict a terminals s ≡ sheet_verdict b terminals t) (figures : (i : ℕ) → found a s i ≡ found b t i) (text : listing a s ≡ listing b t)
    (one_way : canonical s ≡ canonical t) where
  same_written : (room : ℕ) → canonical_answer a s room ≡ canonical_answer b t room
  unfolding canonical_answer
  same_written room = rw (verdict, one_way)

  same_after : (v : Answer ℕ) (old : List ℕ) → canonical_after v s old ≡ canonical_after v t old
  unfolding canonical_after
  same_after (accepted n) old = rw one_way
  same_after (refused number item) old = refl

  archived_alike : (v : Answer ℕ) → archived_by v s ≡ archived_by v t
  unfolding archived_by
  archived_alike (accepted n) = one_way
  archived_alike (refused number item) = refl

  same_archived : archived a s ≡ archived b t
  unfolding archived
  same_archived = archived_alike (sheet_verdict a terminals s) ∙ ap (λ (v : Answer ℕ). archived_by v t) verdict

  pub sheet_alike : SheetAlike a s b t
  unfolding listed bytes_after
  sheet_alike =
      record {
        figures = figures;
        text = text;
        written = same_written;
        written_bytes =
            λ old. same_after (canonical_answer a s (length old)) old ∙ ap (λ (v : Answer ℕ). canonical_after v t old) (same_written (length old));
        archive = same_archived;
        snow_make = λ item code room. ap (λ (f : Answer AtIndex). make_code f item code room) (figures item);
        snow_slice = λ item code old. ap (λ (f : Answer AtIndex). slice_after f item code old) (figures item);
        snow_segment_count = λ item code. ap (λ (f : Answer AtIndex). segment_count_code f item code) (figures item);
        snow_segment = λ item code index room. ap (λ (f : Answer AtIndex). segment_code f item code index room) (figures item);
        snow_segment_slice = λ item code index old. ap (λ (f : Answer AtIndex). segment_after f item code index old) (figures item);
        snow_load = λ item code station. ap (λ (f : Answer AtIndex). load_code f item code station) (figures item);
        snow_overhang = λ item slope. ap (λ (f : Answer AtIndex). overhang_code f item slope) (figures item);
        snow_guard_force = λ item slope. ap (λ (f : Answer AtIndex). guard_code f item slope) (figures item);
        snow_list = λ room. rw text;
        snow_bytes = λ old. rw text;
        snow_canonical = λ room. ap answer_code (same_written room);
      }
