use Rattle.std.proofs.Common.{◌<◌, List, inl, inr, length, refl, subst, sym}
use Rattle.policy_base.specs.Policies.{policy_of}
use Rattle.evidence_base.specs.Made.{PlainCaseEvidence}
use Rattle.promises_report.specs.Cases.{HaveOneStep}
use Rattle.promises_text.specs.Written.{IsTextOf}
use Rattle.report_jobs.proofs.Telling.{few_cases, one_step, promised}
use Rattle.report_jobs.proofs.promises.promised_text.Goals as goal

pub promises_text-requires-clause-few : goal.promises_text-requires-clause-few
promises_text-requires-clause-few c =
    let net = c.args.net.now in
    let policy = policy_of c.args.policy.now in
    let made = c.in_ok-evidence.ensures in
    let cases = c.in_ok-evidence.evidence.cases in
    let few : length cases < 4294967296 = few_cases net policy made.0 cases c.known_net.ensures c.requires.fits made.2 in
    subst (λ (ds : List PlainCaseEvidence). length ds < 4294967296) (sym c.as_slice-cases.ensures) few

pub promises_text-requires-clause-one_step : goal.promises_text-requires-clause-one_step
promises_text-requires-clause-one_step c =
    let made = c.in_ok-evidence.ensures in
    subst (λ (ds : List PlainCaseEvidence). HaveOneStep ds) (sym c.as_slice-cases.ensures)
    (one_step c.args.net.now (policy_of c.args.policy.now) made.0 c.in_ok-evidence.evidence.cases c.known_net.ensures c.requires.fits made.2)

pub returns : goal.returns
returns c =
    let net = c.args.net.now in
    let policy = policy_of c.args.policy.now in
    let made = c.in_ok-evidence.ensures in
    let cases = c.in_ok-evidence.evidence.cases in
    let bytes = c.in_ok-promises_text.field-0.items in
    let text = subst (λ (ds : List PlainCaseEvidence). IsTextOf net policy ds bytes) c.as_slice-cases.ensures c.in_ok-promises_text.ensures in
    let is = promised net policy made.0 cases c.known_net.ensures c.requires.fits made.2 bytes text in
    inr (inl (made.0, cases, bytes, (made.1, made.2), is, refl))
