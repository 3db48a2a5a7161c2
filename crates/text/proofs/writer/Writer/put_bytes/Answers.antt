use mathlib.Core.Path.{refl}
use Rattle.text.proofs.Writing.{copied}
use native.Mathlib.Omega.{arith}
use Rattle.text.proofs.writer.Writer.put_bytes.Goals as goal

pub returns : goal.returns
returns c = record {
  bytes = copied c.args.self.now.bytes.now c.copy_from_slice.new.self c.args.text.now c.args.self.now.at _ c.copy_from_slice.ensures.after (omega arith) c.requires;
  end = refl;
  same = refl;
}
