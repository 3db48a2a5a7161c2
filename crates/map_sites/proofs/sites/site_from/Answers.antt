use Rattle.map_sites.proofs.Kept.{site_accepted}
use Rattle.map_sites.proofs.sites.site_from.Goals as goal

pub returns : goal.returns
returns c =
    let e = rw c.sk_of.ensures at c.site_with.ensures in
    (e, rw e (site_accepted c.args.fields c.requires))
