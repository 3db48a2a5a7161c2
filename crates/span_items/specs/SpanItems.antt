-- The items of a multi-span roof: kind 4 of document 01, and kind 9 of document 02.
use Rattle.std.specs.Prelude.{ℕ, ◌+◌, ◌-◌, ◌*◌, ◌≤◌, ◌<◌, true, false, cond, List, eqb, length, Result, Ok, Err}
use Rattle.figures.specs.Spans.{no_spans}
use Rattle.figures.specs.declared.refusal.Refusal.{Refusal}
use Rattle.figures.specs.declared.refusal.Refusal.TheVariants.{ItemLength}
use Rattle.figures.specs.declared.roof.Shape.{Shape}
use Rattle.figures.specs.declared.roof.Shape.TheVariants.{Monopitch, Pitched, MultiSpan, Cylindrical, Abutting, Projection, Obstructed}
use Rattle.figures.specs.declared.slopes.Spans.{Spans}
use Rattle.little_endian.specs.Numbers.{byte_at}
use Rattle.item_forms.specs.Forms.{sized}
use Rattle.item_forms.specs.declared.Decoded.{Decoded}
use Rattle.item_forms.specs.declared.Item.{Item}
use Rattle.item_forms.specs.declared.Item.TheVariants.{SiteItem, RoofItem, LowerItem}
use Rattle.span_numbers.specs.SpanNumbers.{slopes_from, spans_held, drifted_from}

-- 4, multi-span: span count (8), then per span pitch left, pitch right (16), width left, width right (32); 2 + 12 × count bytes
unfoldable pub multi_span_item : List ℕ → Result Item Refusal
multi_span_item p = sized (2 + 12 * byte_at p 1) p (RoofItem (MultiSpan (byte_at p 1) false))

-- "Item kind 9 is kind 4, then for each valley its depth h and length b3", 32 bits each.
-- "That is 20 × count − 6 bytes; a count of 0 is number 4."
unfoldable pub drifted_item : List ℕ → Result Item Refusal
drifted_item p =
    cond (eqb (byte_at p 1) 0) (Err ItemLength) (sized (20 * byte_at p 1 - 6) p (RoofItem (MultiSpan (byte_at p 1) true)))

-- the spans of kind 4: its slopes alone
abbrev pub plain_from : List ℕ → Spans → ℕ → Spans
plain_from p old count = record { slopes = slopes_from p old.slopes (spans_held count); valleys = old.valleys }

-- the spans of a roof of a shape, by its item's bytes: other shapes than multi-span have none
abbrev pub spans_said : Shape → List ℕ → Spans
spans_said (Monopitch slope) p = no_spans
spans_said (Pitched left right) p = no_spans
spans_said (MultiSpan count false) p = plain_from p no_spans count
spans_said (MultiSpan count true) p = drifted_from p no_spans count
spans_said (Cylindrical arch) p = no_spans
spans_said (Abutting roof) p = no_spans
spans_said (Projection roof) p = no_spans
spans_said (Obstructed by) p = no_spans

-- the bytes of the spans are there
abbrev pub SpansThere : Shape → List ℕ → Type 0
SpansThere (Monopitch slope) p = Unit
SpansThere (Pitched left right) p = Unit
SpansThere (MultiSpan count false) p = 2 + 12 * count ≤ length p
SpansThere (MultiSpan count true) p = (0 < count) × (20 * count - 6 ≤ length p)
SpansThere (Cylindrical arch) p = Unit
SpansThere (Abutting roof) p = Unit
SpansThere (Projection roof) p = Unit
SpansThere (Obstructed by) p = Unit

-- the spans that an item's bytes say with it: a multi-span roof's slopes, and of kind 9 "for each valley its depth h and length b3"
abbrev pub spans_by : Result Item Refusal → List ℕ → Spans
spans_by (Ok (SiteItem fields)) p = no_spans
spans_by (Ok (RoofItem shape)) p = spans_said shape p
spans_by (Ok (LowerItem lower)) p = no_spans
spans_by (Err refusal) p = no_spans

-- an item with its spans beside it
abbrev pub with_spans : Result Item Refusal → List ℕ → Decoded
with_spans item p = record { item = item; spans = spans_by item p }

-- the bytes of an item's spans are there
abbrev pub SpansHeld : Result Item Refusal → List ℕ → Type 0
SpansHeld (Ok (SiteItem fields)) p = Unit
SpansHeld (Ok (RoofItem shape)) p = SpansThere shape p
SpansHeld (Ok (LowerItem lower)) p = Unit
SpansHeld (Err refusal) p = Unit
