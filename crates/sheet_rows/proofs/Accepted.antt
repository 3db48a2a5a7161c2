-- What an accepted sheet gives the listing: its items are few, each place of the order has a roof, and its rows have a bound.
use Prim.Native.Nat.{ℕ, zero, suc, ◌+◌, ◌-◌, ◌*◌, ◌≤◌, ◌<◌}
use mathlib.Core.List.{List, ◌++◌}
use mathlib.Core.Path.{◌≡◌, ap, ◌∙◌}
use lib.ListN.{length, drop, get_or, replicate, length-append, get_or-append}
use native.Mathlib.Numerals.{add-one}
use native.Mathlib.Omega.{arith}
use Rattle.roof_rows.specs.Rows.{roof_rows}
use Rattle.roof_rows.proofs.Lengths.{roof_short}
use Rattle.sheet_figures.specs.Find.{sheet_site, sheet_national, sheet_roof}
use Rattle.ceilings.specs.Ceilings.{terminals}
use Rattle.sheet.specs.Sheet.{SheetOf, sheet_verdict}
use Rattle.sheet.proofs.Kept.{SheetKept, accepted_is, sheet_kept, sheet_ordered}
use Rattle.sheet_figures.proofs.Sound.{figures_in}
use Rattle.sheet_rows.specs.SheetRows.{item_rows, roofs_rows}
use Rattle.figures.specs.declared.national.National.{National}
use Rattle.order.specs.Order.{Ordered}
use Rattle.upper_items.specs.Uppers.{upper, roof_order}

module _ (store sheet : List ℕ) (n : ℕ) (h : SheetOf store sheet n) where
  kept : SheetKept store terminals sheet n
  kept = sheet_kept store terminals sheet n (accepted_is (sheet_verdict store terminals sheet) n h)

  ordered : Ordered (upper sheet n) n (roof_order sheet n)
  ordered = sheet_ordered store terminals sheet n (accepted_is (sheet_verdict store terminals sheet) n h)

  pub few_items : n ≤ 32
  few_items = kept.pairs.fit.items

  -- a place of the order has a roof's index, and so has the table of the order
  module _ (k : ℕ) (lt : k < n - 1) where
    pub some_roof : 0 < get_or (roof_order sheet n) k 0
    some_roof = (ordered.roof k lt).0

    pub roof_below : get_or (roof_order sheet n) k 0 < n
    roof_below = (ordered.roof k lt).1

    pub roof_in_table :
        (table : List ℕ) → table ≡ roof_order sheet n ++ drop (length (roof_order sheet n)) (replicate 32 0) → get_or table k 0 ≡ get_or (roof_order sheet n) k 0
    roof_in_table table e =
        ap (λ (l : List ℕ). get_or l k 0) e
        ∙ get_or-append (roof_order sheet n) (drop (length (roof_order sheet n)) (replicate 32 0)) 0 k (omega (arith, ordered.places))

  -- a roof has at most 8,624 bytes of rows
  roofs_short : (k : ℕ) → k ≤ n - 1 → length (roofs_rows (sheet_national store sheet) sheet (roof_order sheet n) k) ≤ 8624 * k
  unfolding roofs_rows item_rows
  roofs_short zero l = omega arith
  roofs_short (suc k) l =
      let i = get_or (roof_order sheet n) k 0 in
      omega (
        arith,
        length-append (roofs_rows (sheet_national store sheet) sheet (roof_order sheet n) k) (roof_rows (sheet_national store sheet) (sheet_site sheet) (sheet_roof sheet i) i),
        roofs_short k (omega arith),
        roof_short (sheet_national store sheet) (sheet_site sheet) (sheet_roof sheet i) i
            (figures_in store terminals sheet n (accepted_is (sheet_verdict store terminals sheet) n h) i (roof_below k (omega arith)) (some_roof k (omega arith))),
      )

  pub all_short : length (roofs_rows (sheet_national store sheet) sheet (roof_order sheet n) (n - 1)) ≤ 267344
  all_short = omega (arith, roofs_short (n - 1) (omega arith), few_items)

-- one roof more
pub next_roof_lem :
    (national : National) (sheet roofs : List ℕ) (k : ℕ)
    → roofs_rows national sheet roofs k ++ roof_rows national (sheet_site sheet) (sheet_roof sheet (get_or roofs k 0)) (get_or roofs k 0)
    ≡ roofs_rows national sheet roofs (k + 1)
unfolding roofs_rows item_rows
next_roof_lem national sheet roofs k = rw (add-one k, roofs_rows)
