use Rattle.std.proofs.Common.{◌≡◌, length, take, drop, sym, ◌∙◌}
use Rattle.std.proofs.lemmas.Bool.Decides.{Decides-eqb}
use Rattle.std.proofs.lemmas.Slice.Eq.{slice_eq-Decides}
use Rattle.std.proofs.Math.Seq.{take-append_seam}
use Rattle.canonical_sheets.specs.Canonical.{archived}
use Rattle.trials.proofs.layouts.agrees.Goals as goal

pub returns : goal.returns
returns c =
    let text = archived c.args.store.now c.args.stored.sheet.now in
    let f : take c.archive-n.result c.archive-n.new.out ≡ text =
    rw (c.archive-n.ensures.written, c.archive-n.ensures.value) (take-append_seam text (drop (length text) c.args.room.now)) in
    let same = slice_eq-Decides Decides-eqb _ _ _ c.eq.ensures in
    (λ e. sym f ∙ same.0 e, λ e. same.1 (f ∙ e))
