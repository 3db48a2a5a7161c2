-- What it means that answers don't change: every call answers alike on a sheet with a store, and on another sheet with another store.
use Rattle.std.specs.Prelude.{ℕ, List, ◌≡◌, length}
use Rattle.answer_codes.specs.Codes.{answer_code}
use Rattle.canonical_sheets.specs.Canonical.{canonical_answer, canonical_after, archived}
use Rattle.ceilings.specs.Ceilings.{ceiling_of}
use Rattle.ceilings.specs.declared.Caller.{Caller}
use Rattle.figures.specs.declared.site.Site.{Site}
use Rattle.figures.specs.declared.roof.Roof.{Roof}
use Rattle.item_answers.specs.Calls.{make_code, slice_after, segment_count_code, segment_code, segment_after, load_code, overhang_code, guard_code}
use Rattle.listing.specs.Listing.{listing, listed, bytes_after}
use Rattle.sheet.specs.Sheet.{sheet_verdict, place, part_at}
use Rattle.sheet_figures.specs.Find.{found}
use Rattle.standard.specs.Answers.{Answer, national_for, make_answer, made_slice, segment_count_answer, segment_answer, segment_slice, load_answer}
use Rattle.standard.specs.Arrangements.{stretch}
use Rattle.standard.specs.Forces.{overhang_answer, guard_answer}

-- the calls on figures: `make` and `segment` and what they leave in the slice, `segment_count`, `load_at`, `overhang`, `guard_force`
pub record FiguresAlike (a b : List ℕ) (site : Site) (roof : Roof) : Type 0 where
  pub make : (code room : ℕ) → make_answer a site roof code room ≡ make_answer b site roof code room
  pub slice :
      (code : ℕ) (made : Answer) (old : List ℕ)
      → made_slice made (stretch (national_for a site) site roof code) old ≡ made_slice made (stretch (national_for b site) site roof code) old
  pub count : (code : ℕ) → segment_count_answer a site roof code ≡ segment_count_answer b site roof code
  pub segment : (code index room : ℕ) → segment_answer a site roof code index room ≡ segment_answer b site roof code index room
  pub segment_slice :
      (code index : ℕ) (made : Answer) (old : List ℕ)
      → segment_slice made (stretch (national_for a site) site roof code) index old ≡ segment_slice made (stretch (national_for b site) site roof code) index old
  pub load : (code station : ℕ) → load_answer a site roof code station ≡ load_answer b site roof code station
  pub overhang : (slope : ℕ) → overhang_answer a site roof slope ≡ overhang_answer b site roof slope
  pub guard : (slope : ℕ) → guard_answer a site roof slope ≡ guard_answer b site roof slope

-- the calls that either caller has, on sheet s with store a and on sheet t with store b: the verdict, each item, and the verdict for C
pub record ReadAlike (caller : Caller) (a s b t : List ℕ) : Type 0 where
  pub verdict : sheet_verdict a (ceiling_of caller) s ≡ sheet_verdict b (ceiling_of caller) t
  pub items : (i : ℕ) → part_at (place a (ceiling_of caller) s i) s ≡ part_at (place b (ceiling_of caller) t i) t
  pub snow_verdict : answer_code (sheet_verdict a (ceiling_of caller) s) ≡ answer_code (sheet_verdict b (ceiling_of caller) t)

-- the terminals' other calls: `find`, the listing, the one way to write a sheet, and those for C
pub record SheetAlike (a s b t : List ℕ) : Type 0 where
  pub figures : (i : ℕ) → found a s i ≡ found b t i
  pub text : listing a s ≡ listing b t
  pub written : (room : ℕ) → canonical_answer a s room ≡ canonical_answer b t room
  pub written_bytes : (old : List ℕ) → canonical_after (canonical_answer a s (length old)) s old ≡ canonical_after (canonical_answer b t (length old)) t old
  pub archive : archived a s ≡ archived b t
  pub snow_make : (item code room : ℕ) → make_code (found a s item) item code room ≡ make_code (found b t item) item code room
  pub snow_slice : (item code : ℕ) (old : List ℕ) → slice_after (found a s item) item code old ≡ slice_after (found b t item) item code old
  pub snow_segment_count : (item code : ℕ) → segment_count_code (found a s item) item code ≡ segment_count_code (found b t item) item code
  pub snow_segment :
      (item code index room : ℕ) → segment_code (found a s item) item code index room ≡ segment_code (found b t item) item code index room
  pub snow_segment_slice :
      (item code index : ℕ) (old : List ℕ) → segment_after (found a s item) item code index old ≡ segment_after (found b t item) item code index old
  pub snow_load : (item code station : ℕ) → load_code (found a s item) item code station ≡ load_code (found b t item) item code station
  pub snow_overhang : (item slope : ℕ) → overhang_code (found a s item) item slope ≡ overhang_code (found b t item) item slope
  pub snow_guard_force : (item slope : ℕ) → guard_code (found a s item) item slope ≡ guard_code (found b t item) item slope
  pub snow_list : (room : ℕ) → listed a s room ≡ listed b t room
  pub snow_bytes : (old : List ℕ) → bytes_after a s old ≡ bytes_after b t old
  pub snow_canonical : (room : ℕ) → answer_code (canonical_answer a s room) ≡ answer_code (canonical_answer b t room)
