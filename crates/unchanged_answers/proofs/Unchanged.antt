-- An added set changes no answer to a job dated before it, or not at all: whatever the store, the set and the job are.
use Prim.Native.Nat.{ℕ}
use mathlib.Core.List.{List}
use mathlib.Core.Path.{◌≡◌, refl, ap}
use Rattle.added_sets.proofs.Unchanged.{unchanged_before}
use Rattle.added_sets.specs.Adding.{store_after, JobBefore}
use Rattle.answer_codes.specs.Codes.{answer_code}
use Rattle.ceilings.specs.Ceilings.{terminals, ceiling_of}
use Rattle.ceilings.specs.declared.Caller.{Caller}
use Rattle.figures.specs.Store.{set_from, SameFor}
use Rattle.figures.specs.declared.national.National.{National}
use Rattle.figures.specs.declared.site.Site.{Site}
use Rattle.figures.specs.declared.roof.Roof.{Roof}
use Rattle.pairs.specs.Pairs.{Answer}
use Rattle.sheet.specs.Sheet.{Place, place, part_at}
use Rattle.sheet_figures.specs.Find.{sheet_site}
use Rattle.standard.proofs.Stores.{same_figures, same_make, same_count, same_segment, same_load, same_overhang, same_guard}
use Rattle.standard.specs.Answers.{made_slice, segment_slice}
use Rattle.standard.specs.Arrangements.{stretch}
use Rattle.unchanged_answers.specs.Alike.{FiguresAlike, ReadAlike, SheetAlike}
use Rattle.unchanged_answers.proofs.Alike.{sheet_alike}
use Rattle.unchanged_answers.proofs.Sheets.{same_verdict, same_place, same_found, same_listing}

figures_alike : (a b : List ℕ) (site : Site) (roof : Roof) → SameFor a b site.day → FiguresAlike a b site roof
figures_alike a b site roof h =
    record {
      make = same_make a b site roof h;
      slice = λ code made old. ap (λ (n : National). made_slice made (stretch n site roof code) old) (same_figures a b site.day h);
      count = same_count a b site roof h;
      segment = same_segment a b site roof h;
      segment_slice = λ code index made old. ap (λ (n : National). segment_slice made (stretch n site roof code) index old) (same_figures a b site.day h);
      load = same_load a b site roof h;
      overhang = same_overhang a b site roof h;
      guard = same_guard a b site roof h;
    }

pub unchanged_figures :
    (store numbers : List ℕ) (site : Site) (roof : Roof) → JobBefore site.day (set_from numbers 0).day
    → FiguresAlike (store_after store numbers) store site roof
unchanged_figures store numbers site roof p =
    figures_alike (store_after store numbers) store site roof (unchanged_before store numbers site.day p)

module _ (store numbers s : List ℕ) (p : JobBefore (sheet_site s).day (set_from numbers 0).day) where
  alike : SameFor (store_after store numbers) store (sheet_site s).day
  alike = unchanged_before store numbers (sheet_site s).day p

  pub unchanged_places : (caller : Caller) (i : ℕ) → place (store_after store numbers) (ceiling_of caller) s i ≡ place store (ceiling_of caller) s i
  unchanged_places caller i = same_place _ _ s alike (ceiling_of caller) i

  pub unchanged_reading : (caller : Caller) → ReadAlike caller (store_after store numbers) s store s
  unchanged_reading caller =
      let same = same_verdict _ _ s alike (ceiling_of caller) in
      record {
        verdict = same;
        items = λ i. ap (λ (v : Answer Place). part_at v s) (unchanged_places caller i);
        snow_verdict = ap answer_code same;
      }

  pub unchanged_sheet : SheetAlike (store_after store numbers) s store s
  unchanged_sheet = sheet_alike _ _ _ _ (same_verdict _ _ s alike terminals) (same_found _ _ s alike) (same_listing _ _ s alike) refl
