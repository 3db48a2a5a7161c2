-- The rules on an item in its place: refusals 3 to 10, 14, 15 and 19.
use Rattle.std.specs.Prelude.{ℕ, zero, suc, List, ◌≡◌, Result, Ok, Err}
use Rattle.figures.specs.Refusal.{number_of}
use Rattle.figures.specs.RoofRules.{lower_refusal, shape_refusal}
use Rattle.figures.specs.Rules.{first_of}
use Rattle.figures.specs.Store.{day_refusal}
use Rattle.figures.specs.declared.refusal.Refusal.{Refusal}
use Rattle.figures.specs.declared.site.SiteData.{SiteData}
use Rattle.map_sites.specs.Sites.{site_data_refusal}
use Rattle.items.specs.Items.{content}
use Rattle.item_forms.specs.declared.Item.{Item}
use Rattle.item_forms.specs.declared.Item.TheVariants.{SiteItem, RoofItem, LowerItem}
use Rattle.span_items.specs.SpanItems.{spans_said}

-- the rules on a site: its own values, then "19 when a dated job has no set begun, after 7, or after 15 for kind 8"
unfoldable pub job_refusal : List ℕ → SiteData → ℕ
job_refusal store fields = first_of (site_data_refusal fields) (day_refusal store fields.day)

-- the first rule that an item at an index breaks, 0 where it breaks none: the refusal of its form, then
-- "5 first item no site, or a later site", then the value rules 6 to 10, 14, 15 and 19; by what its bytes say
abbrev pub rule_by : List ℕ → ℕ → List ℕ → Result Item Refusal → ℕ
rule_by store index p (Err refusal) = number_of refusal
rule_by store zero p (Ok (SiteItem fields)) = job_refusal store fields
rule_by store (suc index) p (Ok (SiteItem fields)) = 5
rule_by store zero p (Ok (RoofItem shape)) = 5
rule_by store (suc index) p (Ok (RoofItem shape)) = shape_refusal shape (spans_said shape p)
rule_by store zero p (Ok (LowerItem lower)) = 5
rule_by store (suc index) p (Ok (LowerItem lower)) = lower_refusal lower

abbrev pub rule_of : List ℕ → ℕ → List ℕ → ℕ
rule_of store index p = rule_by store index p (content p)

-- r is the number of a later item, whatever the store and its index are
abbrev pub LaterRule : ℕ → List ℕ → Type 0
LaterRule r p = (store : List ℕ) (index : ℕ) → r ≡ rule_of store (suc index) p
