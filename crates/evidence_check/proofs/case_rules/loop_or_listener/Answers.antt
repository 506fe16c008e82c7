use Rattle.std.proofs.Common.{Some, None, sym, subst, arith}
use Rattle.evidence_verdicts.specs.declared.rule.CheckRule.TheVariants.{PrefListener, PrefLoop}
use Rattle.evidence_check.specs.CaseFaults.{IsFirstFault}
use Rattle.evidence_check.proofs.Faults.{listener_first, loop_first, none_left, passes, stops}
use Rattle.evidence_check.proofs.case_rules.loop_or_listener.Goals as goal

pub returns-in-Some : goal.returns-in-Some
returns-in-Some c = λ policy cs k s of.
    let net = c.args.net.now in
    let h = rw c.in-Some.is at c.in_ok-pair.ensures in
    subst (IsFirstFault 7 net policy cs k) (sym c.at_pair.ensures)
    (stops net policy cs k PrefLoop c.in-Some.pair (omega arith) (loop_first net policy cs k s c.args.case.now of (Some c.in-Some.pair) h))

pub returns-in-Some-2 : goal.returns-in-Some-2
returns-in-Some-2 c = λ policy cs k s of.
    let net = c.args.net.now in
    let none = rw c.in_default.is at c.in_ok-pair.ensures in
    let h = rw c.in-Some-2.is at c.in_ok-pair-2.ensures in
    let here = subst (IsFirstFault 8 net policy cs k) (sym c.at_pair-in-Some-2.ensures) (stops net policy cs k PrefListener c.in-Some-2.pair
    (omega arith) (listener_first net policy cs k s c.args.case.now of (Some c.in-Some-2.pair) h)) in
    passes net policy cs k PrefLoop (loop_first net policy cs k s c.args.case.now of None none) (Some c.at_pair-in-Some-2.result) here

pub returns : goal.returns
returns c = λ policy cs k s of.
    let net = c.args.net.now in
    let none = rw c.in_default.is at c.in_ok-pair.ensures in
    let also = rw c.in_default-2.is at c.in_ok-pair-2.ensures in
    passes net policy cs k PrefLoop (loop_first net policy cs k s c.args.case.now of None none) None
    (passes net policy cs k PrefListener (listener_first net policy cs k s c.args.case.now of None also) None (none_left net policy cs k))
