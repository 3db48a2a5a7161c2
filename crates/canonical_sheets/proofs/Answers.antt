-- What both calls answer, and what the lent bytes then hold.
use Prim.Native.Nat.{ℕ, ◌≤◌, ◌<◌}
use mathlib.Core.List.{List}
use mathlib.Core.Path.{◌≡◌, refl, ap}
use borrow.Author.Tests.{lt-ltb, le-ltb}
use lib.ListN.{length, length-append}
use native.Mathlib.Omega.{arith}
use Rattle.ceilings.specs.Ceilings.{terminals}
use Rattle.pairs.specs.Pairs.{Answer, accepted, refused}
use Rattle.sheet.proofs.Kept.{sheet_kept}
use Rattle.sheet.specs.Sheet.{sheet_verdict}
use Rattle.text.proofs.Writing.{short}
use Rattle.canonical_sheets.specs.Canonical.{canonical, canonical_answer, archived_by, archived}
use Rattle.canonical_sheets.proofs.Acceptance.{no_longer}

module _ (store s : List ℕ) where
  pub sheet_refused : (room k i : ℕ) → sheet_verdict store terminals s ≡ refused k i → refused k i ≡ canonical_answer store s room
  unfolding canonical_answer
  sheet_refused room k i e = rw e

  module _ (n : ℕ) (e : sheet_verdict store terminals s ≡ accepted n) where
    -- the result of an accepted sheet has no more bytes than a sheet may have
    pub in_ceiling : length (canonical s) ≤ 16384
    in_ceiling = omega (arith, no_longer s terminals n (sheet_kept store terminals s n e).passed, (sheet_kept store terminals s n e).pairs.fit.bytes)

    pub no_room : (room : ℕ) → room < length (canonical s) → refused 11 0 ≡ canonical_answer store s room
    unfolding canonical_answer
    no_room room g = rw (e, lt-ltb room (length (canonical s)) g)

    pub has_room : (room : ℕ) → length (canonical s) ≤ room → accepted (length (canonical s)) ≡ canonical_answer store s room
    unfolding canonical_answer
    has_room room g = rw (e, le-ltb room (length (canonical s)) g)

  pub archived_is : (v : Answer ℕ) → v ≡ sheet_verdict store terminals s → archived_by v s ≡ archived store s
  unfolding archived
  archived_is v e = ap (λ (a : Answer ℕ). archived_by a s) e

  archived_short_by : (v : Answer ℕ) → sheet_verdict store terminals s ≡ v → length (archived_by v s) ≤ 16384
  unfolding archived_by
  archived_short_by (accepted n) e = in_ceiling n e
  archived_short_by (refused number item) e = simp length-append (omega (arith, short number, short item))

  -- what the archive gets of any sheet has no more bytes either
  pub archived_short : length (archived store s) ≤ 16384
  unfolding archived
  archived_short = archived_short_by (sheet_verdict store terminals s) refl
