use Rattle.std.proofs.Common.{Some, None, sym, subst, arith}
use Rattle.std.proofs.lemmas.Result.{IfOk-weaker}
use Rattle.evidence_verdicts.specs.declared.rule.CheckRule.TheVariants.{PrefRank, PrefStep}
use Rattle.evidence_check.specs.CaseFaults.{IsFaultFrom, IsFirstFault}
use Rattle.evidence_check.proofs.Faults.{passes, rank_first, step_first, stops}
use Rattle.evidence_check.proofs.case_rules.number_rules.Goals as goal

pub returns-in-Some : goal.returns-in-Some
returns-in-Some c = λ policy cs k s of claims.
    let net = c.args.net.now in
    let case = c.args.case.now in
    let first = rank_first net policy cs k s case of claims c.ranked_in-claimed.result c.ranked_in-claimed.ensures in
    let h = rw c.in-Some.is at c.in_ok-pair.ensures in
    subst (IsFirstFault 5 net policy cs k) (sym c.at_pair.ensures) (stops net policy cs k PrefRank c.in-Some.pair (omega arith) (first (Some c.in-Some.pair) h))

pub returns-in-Some-2 : goal.returns-in-Some-2
returns-in-Some-2 c = λ policy cs k s of claims.
    let net = c.args.net.now in
    let case = c.args.case.now in
    let first = rank_first net policy cs k s case of claims c.ranked_in-claimed.result c.ranked_in-claimed.ensures in
    let none = rw c.in_default.is at c.in_ok-pair.ensures in
    let h = rw c.in-Some-2.is at c.in_ok-pair-2.ensures in
    let here = subst (IsFirstFault 6 net policy cs k) (sym c.at_pair-in-Some-2.ensures)
    (stops net policy cs k PrefStep c.in-Some-2.pair (omega arith) (step_first net policy cs k s case of (Some c.in-Some-2.pair) h)) in
    passes net policy cs k PrefRank (first None none) (Some c.at_pair-in-Some-2.result) here

pub returns : goal.returns
returns c = λ policy cs k s of claims.
    let net = c.args.net.now in
    let case = c.args.case.now in
    let first = rank_first net policy cs k s case of claims c.ranked_in-claimed.result c.ranked_in-claimed.ensures in
    let none = rw c.in_default.is at c.in_ok-pair.ensures in
    let also = rw c.in_default-2.is at c.in_ok-pair-2.ensures in
    IfOk-weaker c.loop_or_listener.result (IsFaultFrom 7 net policy cs k) (IsFaultFrom 5 net policy cs k)
    (λ o h. passes net policy cs k PrefRank (first None none) o (passes net policy cs k PrefStep (step_first net policy cs k s case of None also) o h)) (c.loop_or_listener.ensures policy cs k s of)
