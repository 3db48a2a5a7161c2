use mathlib.Core.Path.{refl, ◌∙◌}
use Rattle.ramps.proofs.Stretches.{weighed, read_start, read_end, read_between}
use native.Mathlib.Omega.{arith}
use Rattle.ramps.proofs.Ramp.reading.Goals as goal
use Rattle.ramps.proofs.Ramp.reading.Goals.{Start}

pub returns-then-along-eq0 : goal.returns-then-along-eq0
returns-then-along-eq0 c =
    let within = rw (← c.self.view_is) at c.requires in
    let e = c.ceil_div.ensures ∙ read_start _ c.args.x c.self.invariant _ _ refl (omega arith) (omega arith) in
    rw (← c.self.view_is) (e, rw e (weighed _ _ c.self.invariant within).most)

pub returns-then-left-eq0 : goal.returns-then-left-eq0
returns-then-left-eq0 c =
    let within = rw (← c.self.view_is) at c.requires in
    let e = c.ceil_div-then-left-eq0.ensures ∙ read_end _ c.args.x c.self.invariant _ _ refl (omega arith) within (omega arith) in
    rw (← c.self.view_is) (e, rw e (weighed _ _ c.self.invariant within).most)

pub overflow_add-self-inside : goal.overflow_add-self-inside
overflow_add-self-inside c =
    let within = rw (← c.self.view_is) at c.requires in
    let w = weighed _ _ c.self.invariant within in
    omega (arith, w.from, w.to)

pub returns : goal.returns
returns c =
    let within = rw (← c.self.view_is) at c.requires in
    let e = c.ceil_div-2.ensures ∙ read_between _ c.args.x c.self.invariant _ _ refl refl in
    rw (← c.self.view_is) (e, rw e (weighed _ _ c.self.invariant within).most)
