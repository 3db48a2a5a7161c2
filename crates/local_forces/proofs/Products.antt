-- The products of local forces fit 64 bits, and what is made of them 32.
use Prim.Native.Nat.{ℕ, ◌*◌, ◌≤◌}
use mathlib.Core.Path.{◌≡◌}
use native.Mathlib.Nat.{mul-le-mul}
use native.Mathlib.Omega.{arith}
use Rattle.rounding.specs.Up.{ceil_div}
use Rattle.rounding.proofs.Rounding.{least}

pub cube_fits : (s : ℕ) → s ≤ 24000 → (s * s ≤ 576000000) × (s * s * s ≤ 13824000000000)
cube_fits s h = (omega (arith, mul-le-mul h h), omega (arith, mul-le-mul (mul-le-mul h h) h))

pub product_fits : (s width sine : ℕ) → s ≤ 24000 → width ≤ 100000 → sine ≤ 1000000 → (s * width ≤ 2400000000) × (s * width * sine ≤ 2400000000000000)
product_fits s width sine h k l = (omega (arith, mul-le-mul h k), omega (arith, mul-le-mul (mul-le-mul h k) l))

pub force_fits : (n r : ℕ) → r ≡ ceil_div n 1000000000 → n ≤ 2400000000000000 → r ≤ 2400000
force_fits n r e h = rw e (least n 1000000000 2400000 (omega arith) (omega arith))
