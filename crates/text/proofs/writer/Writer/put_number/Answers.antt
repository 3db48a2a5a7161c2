use mathlib.Core.Path.{refl, sym, ap, ◌∙◌}
use mathlib.Core.List.{List, ◌++◌}
use lib.ListN.{length, drop}
use Prim.Native.Nat.{ℕ, ◌+◌}
use Rattle.std.specs.Fmt as std
use Rattle.text.specs.Text.{decimal}
use Rattle.text.proofs.Writing.{short, as_std, ended}
use native.Mathlib.Omega.{arith}
use Rattle.text.proofs.writer.Writer.put_number.Goals as goal

pub overflow_add-end : goal.overflow_add-end
overflow_add-end c = omega (arith, short c.args.number, c.digit_count.ensures)

pub write_digits-requires : goal.write_digits-requires
write_digits-requires c =
    let e = ap length (as_std c.args.number c.ranges.number.fits ∙ ap std.decimal (sym c.from.ensures)) in
    (omega (arith, e), omega (arith, short c.args.number))

pub returns : goal.returns
returns c =
    let same = as_std c.args.number c.ranges.number.fits ∙ ap std.decimal (sym c.from.ensures) in
    let e = ap length same in
    let out = c.args.self.now.bytes.now in
    record {
      bytes = ended out c.write_digits.new.buf (decimal c.args.number) c.args.self.now.at (c.args.self.now.at + c.digit_count.result) c.write_digits.result
          (omega (arith, e, c.write_digits.ensures.start)) (omega arith) (omega (arith, short c.args.number))
          (c.write_digits.ensures.written ∙ ap (λ (l : List ℕ). l ++ drop (c.args.self.now.at + c.digit_count.result) out) (sym same))
          c.write_digits.ensures.before;
      end = omega arith;
      same = refl;
    }
