use Rattle.std.proofs.Common.{◌≡◌, ◌++◌, ap, sym, subst, ◌∙◌}
use Rattle.std.specs.Option.{option_and_then}
use Rattle.policy_base.specs.Policies.{policy_of}
use Rattle.config_base.specs.Lines.{class_of}
use Rattle.evidence_base.specs.Made.{case_at}
use Rattle.scenarios.specs.Scenarios.{failures_of}
use Rattle.outcome_report.specs.Lines.{Shown}
use Rattle.outcome_report.specs.Report.{IsReport, shown_of}
use Rattle.outcome_report.specs.Situations.{shown_by, shown_in}
use Rattle.outcome_report.proofs.Alike.{same_reports}
use Rattle.outcome_report.proofs.Situations.{shows_alike}
use Rattle.outcome_report.proofs.reporting.report.Goals as goal

pub returns : goal.returns
returns c = λ config passes.
    let net = c.args.net.now in
    let policy = policy_of c.args.policy.now in
    let f = failures_of c.args.scenario.now in
    let p = c.args.scenario.now.prefix in
    let routes = c.args.outcome.now.routes in
    let of = c.in_ok-situation.ensures in
    let situation = c.in_ok-situation.situation in
    let case = of.case ∙ c.case_of-case.ensures net config passes.made.lines in
    let added = c.in_ok-push_report.ensures config passes in
    let text : c.push_report.new.text.items ≡ added.0 = added.2 ∙ ap (λ t. t ++ added.0) c.new-text.ensures.items in
    let case_here = option_and_then (case_at c.args.evidence.now.cases) (class_of config p) in
    let alike = shows_alike net policy config c.args.evidence.now.cases c.known_net.ensures c.requires.fits passes p c.known_prefix.ensures routes f in
    let shown : shown_in situation ≡ shown_by net f routes case_here = λ i. shown_by (of.net i) (failures_of (of.scenario i)) ((of.outcome i).routes) (case i) in
    (same_reports net policy config p (shown_by net f routes case_here) (shown_of net policy config f p routes) alike c.push_report.new.text.items).0
    (subst (λ (s : Shown). IsReport net policy config p s c.push_report.new.text.items) shown (subst (IsReport net policy config p (shown_in situation)) (sym text) added.1))
