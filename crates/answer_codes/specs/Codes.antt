-- Answers as numbers of 32 bits, as the header has them.
use Rattle.std.specs.Prelude.{ℕ, ◌+◌, ◌*◌, min, Option, Some, None, Result, Ok, Err}
use Rattle.pairs.specs.Pairs.{Answer, accepted, refused}

-- a refusal, as the header has it: 0x80000000 + 65,536 × number + item, and an index above 65,535 shows as 65,535
unfoldable pub refusal_code : ℕ → ℕ → ℕ
refusal_code number item = 2147483648 + 65536 * number + min item 65535

-- "none" is 0x_ffffffff
abbrev pub none_code : ℕ
none_code = 4294967295

-- a number, or a refusal and the item that it names
abbrev pub answer_code : Answer ℕ → ℕ
answer_code (accepted n) = n
answer_code (refused number item) = refusal_code number item

-- a force, "none", or a refusal and the item that it names
abbrev pub force_code : Answer (Option ℕ) → ℕ
force_code (accepted (Some newtons)) = newtons
force_code (accepted None) = none_code
force_code (refused number item) = refusal_code number item

-- a number, or a refusal that names no item, and so item 0
abbrev pub alone_code : Result ℕ ℕ → ℕ
alone_code (Ok n) = n
alone_code (Err number) = refusal_code number 0
