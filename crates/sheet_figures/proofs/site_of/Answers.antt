use Rattle.sheet.proofs.Kept.{item_in, accepted_is}
use Rattle.sheet_figures.proofs.Sound.{some_items}
use Rattle.sheet_figures.proofs.site_of.Goals as goal

pub site_in-requires : goal.site_in-requires
site_in-requires c =
    let v = accepted_is _ _ c.args.sheet.accepted in
    rw c.bytes.ensures (item_in _ _ _ _ v 0 (some_items _ _ _ _ v))

pub returns : goal.returns
returns c = rw c.bytes.ensures at c.site_in.ensures
