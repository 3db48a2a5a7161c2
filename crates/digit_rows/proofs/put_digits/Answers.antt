use mathlib.Core.Path.{refl, ap, ◌∙◌}
use mathlib.Core.List.{List}
use Prim.Native.Nat.{ℕ, ◌+◌}
use lib.ListN.{set}
use native.Mathlib.Omega.{arith}
use Rattle.text.proofs.Writing.{copied}
use Rattle.digits.specs.Words.{bytes_of}
use Rattle.digit_rows.proofs.Spoiled.{word, word_bytes, length_bytes}
use Rattle.digit_rows.proofs.put_digits.Goals as goal

pub returns-clause-loose : goal.returns-clause-loose
returns-clause-loose c =
    let out = c.args.out.now in
    let d = c.args.digits in
    let written = copied out.bytes.now c.copy_from_slice.new.self (bytes_of 8 d.word) out.at _
    (c.copy_from_slice.ensures.after ∙ (c.to_le_bytes.ensures ∙ word_bytes d.word))
    (omega (arith, length_bytes 8 d.word)) (omega (arith, length_bytes 8 d.word)) in
    word d.word d.len c.args.behind (ap (λ (l : List ℕ). set l (out.at + d.len) c.args.behind) written) refl refl d.text d.some d.most
