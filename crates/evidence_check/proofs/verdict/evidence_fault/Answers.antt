use Rattle.std.proofs.Common.{sym, refl, subst}
use Rattle.policy_base.specs.Policies.{policy_of}
use Rattle.evidence_verdicts.specs.declared.verdict.Shown.{Shown}
use Rattle.evidence_verdicts.specs.Verdicts.{IsVerdict}
use Rattle.evidence_check.proofs.Fold.{before_config, case_verdict}
use Rattle.evidence_check.proofs.verdict.evidence_fault.Goals as goal

pub returns-in-Some-clause-verdict : goal.returns-in-Some-clause-verdict
returns-in-Some-clause-verdict c = λ config.
    let net = c.args.net.now in
    let policy = policy_of c.args.policy.now in
    let cs = c.args.evidence.now in
    let found = rw c.in-Some.is at c.in_ok-found.ensures in
    let f = c.in-Some.found in
    let shown : Shown = record { case = f.case; first = f.fault.first; second = f.fault.second; line = 0 } in
    subst (IsVerdict net policy config cs) (sym c.of_case.ensures)
    (case_verdict net policy cs config f.fault.rule shown found.most (record { earlier = found.earlier; first = found.first; no_line = refl }))

pub returns-in-Some-2-clause-verdict : goal.returns-in-Some-2-clause-verdict
returns-in-Some-2-clause-verdict c = λ config.
    let net = c.args.net.now in
    let policy = policy_of c.args.policy.now in
    let cs = c.args.evidence.now in
    let kept = rw c.in_default.is at c.in_ok-found.ensures in
    let at = rw c.in-Some-2.is at c.in_ok-at.ensures in
    subst (IsVerdict net policy config cs) (sym c.of_tag.ensures) (record { earlier = kept; first = record { fails = at.fails; before = at.before }; no_line = refl })

pub returns-clause-verdict : goal.returns-clause-verdict
returns-clause-verdict c =
    let net = c.args.net.now in
    let policy = policy_of c.args.policy.now in
    let kept = rw c.in_default.is at c.in_ok-found.ensures in
    let tags = rw c.in_default-2.is at c.in_ok-at.ensures in
    before_config net policy c.args.evidence.now kept tags
