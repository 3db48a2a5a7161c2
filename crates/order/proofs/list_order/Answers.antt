use Prim.Native.Nat.{◌-◌, ◌<◌}
use mathlib.Core.Path.{◌≡◌, refl, sym}
use Rattle.std.specs.Prelude.{Some, None}
use Rattle.circles.specs.Following.{upper_in}
use Rattle.order.specs.Order.{marked_in, next_roof, order}
use Rattle.order.proofs.Turns.{next_found}
use Rattle.order.proofs.Writing.{begin, in_range, stuck, turn}
use native.Mathlib.Omega.{arith}
use Rattle.order.proofs.list_order.Goals as goal
use Rattle.order.proofs.list_order.Goals.{In-Some}

pub loop-k-init : goal.loop-k-init
loop-k-init c = begin _ _ _

pub returns-in_default : goal.returns-in_default
returns-in_default c =
    let z = next_found _ _ _ None c.in_default.ensures in
    let e = stuck c.loop-k.invariant z refl (omega arith) in
    record { value = rw e (sym c.loop-k.invariant.count, omega arith); out_after = rw e c.loop-k.invariant.bytes }

next : (c : In-Some) → (c.in-Some.i ≡ next_roof (upper_in c.args.upper.now) c.args.n (marked_in c.loop-k.marks)) × (0 < c.in-Some.i)
next c = next_found _ _ _ (Some c.in-Some.i) c.in-Some.ensures

inside : (c : In-Some) → c.in-Some.i < 32
inside c = omega (arith, in_range c.loop-k.invariant (next c).0 (next c).1)

pub bounds-marks-i : goal.bounds-marks-i
bounds-marks-i c = inside (goal.at.bounds-marks-i c).In-Some

pub overflow_cast-out : goal.overflow_cast-out
overflow_cast-out c = omega (arith, inside (goal.at.overflow_cast-out c).In-Some)

pub loop-k-preserved : goal.loop-k-preserved
loop-k-preserved c =
    let n = next (goal.at.loop-k-preserved c).In-Some in
    turn c.loop-k.invariant n.0 n.1 (inside (goal.at.loop-k-preserved c).In-Some) (omega arith)

pub returns : goal.returns
unfolding order
returns c =
    let e : c.args.n - 1 ≡ c.loop-k.k = omega arith in
    let f : c.saturating_sub-roofs.result ≡ c.loop-k.k = omega arith in
    record { value = rw (e, f) (sym c.loop-k.invariant.count, omega arith); out_after = rw (e, f) c.loop-k.invariant.bytes }
