use Rattle.std.proofs.Common.{rules, ◌≡◌}
use mathlib.Core.Path.{sym, ◌∙◌}
use native.Mathlib.Omega.{arith}
use Rattle.ceilings.specs.Ceilings.{ceiling_of}
use Rattle.pairs.specs.Pairs.{accepted}
use Rattle.pairs.proofs.Kept.{pairs_kept}
use Rattle.sheet.proofs.Kept.{rules_refused, rules_items, store_refused, store_accepted, all_accepted}
use Rattle.sheet.proofs.Readers.{caller_accepts}
use Rattle.sheet.specs.Sheet.{sheet_verdict}
use Rattle.sheet.proofs.accepted.Sheet.read.Goals as goal
use Rattle.sheet.proofs.accepted.Sheet.read.Goals.{In_ok-check_rules}

pub returns-in_err-store : goal.returns-in_err-store
returns-in_err-store c =
    let e = sym (store_refused c.args.store.now (ceiling_of c.args.caller) c.args.s.now _ c.in_err-store.ensures.refusal) in
    search rules

pub returns-in_err-items : goal.returns-in_err-items
returns-in_err-items c =
    let k = sym c.in_ok-store.ensures.refusal in
    let e = sym (rules_refused _ _ _ _ _ c.in_err-items.ensures ∙ store_accepted c.args.store.now (ceiling_of c.args.caller) c.args.s.now k) in
    search rules

pub check_rules-requires : goal.check_rules-requires
check_rules-requires c = omega (arith, (pairs_kept _ _ _ c.in_ok-items.ensures.1).fit.some)

pub returns-in_err-check_rules : goal.returns-in_err-check_rules
returns-in_err-check_rules c =
    let k = sym c.in_ok-store.ensures.refusal in
    let r = rw (c.in_ok-store.ensures.lent, c.in_ok-items.ensures.0) at c.in_err-check_rules.ensures in
    let e = sym (r ∙ (rules_items c.args.store.now (ceiling_of c.args.caller) c.args.s.now _ c.in_ok-items.ensures.1 ∙ store_accepted _ _ _ k)) in
    search rules

all : (c : In_ok-check_rules) → sheet_verdict c.args.store.now (ceiling_of c.args.caller) c.args.s.now ≡ accepted c.in_ok-items.items.count
all c =
    let r = rw (c.in_ok-store.ensures.lent, c.in_ok-items.ensures.0) at c.in_ok-check_rules.ensures in
    all_accepted _ _ _ _ _ (sym c.in_ok-store.ensures.refusal) c.in_ok-items.ensures.1 r

pub invariant_of-result : goal.invariant_of-result
invariant_of-result c =
    let a = all (goal.at.invariant_of-result c).In_ok-check_rules in
    let k = caller_accepts _ c.args.caller _ _ (sym c.in_ok-store.ensures.refusal) a in
    record { accepted = rw (c.in_ok-store.ensures.lent, c.in_ok-items.ensures.0) k }

pub returns : goal.returns
returns c = (c.in_ok-store.ensures.lent, c.in_ok-items.ensures.0, all (goal.at.returns c).In_ok-check_rules)
