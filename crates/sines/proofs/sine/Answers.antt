use Rattle.std.proofs.Common.{◌≡◌, ℕ, ◌<◌, List, Bool, T, eqb, get_or, arith}
use lib.Dec.{eqb→eq}
use Rattle.standard.specs.Sine.{sine_reference, sine_entry}
use Rattle.rounding.proofs.Tested.{every, every_at}
use Rattle.sines.proofs.sine.Reads as reads
use Rattle.sines.proofs.sine.Lts as lts
use Rattle.sines.proofs.sine.Goals as goal

right : List ℕ → ℕ → Bool
right entries pitch = eqb (get_or entries pitch 0) (sine_entry pitch)

entry : (entries : List ℕ) → T (every (right entries) 801) → (pitch : ℕ) → pitch < 801 → get_or entries pitch 0 ≡ sine_entry pitch
unfolding right
entry entries t pitch h = eqb→eq _ _ (every_at (right entries) 801 t pitch h)

pub returns : goal.returns
unfolding right sine_entry sine_reference
returns c = entry (lts.m6 reads.Pre reads.Post c.before.before c.result-1.given).1.1.0.now tt c.args.pitch (omega arith)
