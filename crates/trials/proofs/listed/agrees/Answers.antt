use Rattle.std.proofs.Common.{ℕ, ◌≡◌, ◌≤◌, List, ◌++◌, length, take, drop, sym, ◌∙◌}
use Rattle.std.proofs.lemmas.Bool.{le-ltb}
use Rattle.std.proofs.lemmas.Bool.Decides.{Decides-eqb}
use Rattle.std.proofs.lemmas.Slice.Eq.{slice_eq-Decides}
use Rattle.std.proofs.Math.Seq.{take-append_seam}
use Rattle.listing.specs.Listing.{listing, list_room, listed, bytes_after}
use Rattle.trials.proofs.listed.agrees.Goals as goal

-- the bytes at the front of the room are the listing, and no others
front :
    (store sheet old new : List ℕ) (n : ℕ)
    → list_room ≤ length old → n ≡ listed store sheet (length old) → new ≡ bytes_after store sheet old → take n new ≡ listing store sheet
unfolding listed bytes_after
front store sheet old new n h e b =
    let t = le-ltb (length old) list_room h in
    let k : n ≡ length (listing store sheet) = e ∙ rw t in
    let w : new ≡ listing store sheet ++ drop (length (listing store sheet)) old = b ∙ rw t in
    rw (k, w) (take-append_seam (listing store sheet) (drop (length (listing store sheet)) old))

pub returns : goal.returns
returns c =
    let f = front c.args.store.now c.args.stored.sheet.now c.args.room.now _ _ c.requires c.list-n.ensures.answer c.list-n.ensures.written in
    let same = slice_eq-Decides Decides-eqb _ _ _ c.eq.ensures in
    (λ e. sym f ∙ same.0 e, λ e. same.1 (f ∙ e))
