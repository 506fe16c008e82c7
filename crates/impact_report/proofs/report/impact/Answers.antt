use Rattle.std.proofs.Common.{◌≡◌, option_map, sym, ap, ◌∙◌}
use Rattle.std.proofs.lemmas.Result.{IfOk-weaker}
use Rattle.policy_base.specs.Policies.{policy_of}
use Rattle.scenarios.specs.Scenarios.{failures_of}
use Rattle.impact_law.specs.Cuts.{live_cuts}
use Rattle.impact_law.specs.Impacts.{IsImpact}
use Rattle.outcome_claims.specs.Claims.{sources_of}
use Rattle.impact_report.specs.Found.{IsFound}
use Rattle.impact_report.proofs.Whole.{bare, steps_differ, whole}
use Rattle.impact_report.proofs.report.impact.Goals as goal

pub found_by-requires : goal.found_by-requires
found_by-requires c =
    steps_differ c.args.net.now (policy_of c.args.policy.now) c.requires.passes.0 c.args.evidence.now.cases c.known_net.ensures c.requires.fits
    c.requires.passes.1 c.args.scenario.now.prefix c.known_prefix.ensures c.in-Some.case.now
    (sym (c.case_of.ensures c.args.net.now c.requires.passes.0 c.requires.passes.1.made.lines) ∙ ap (option_map (λ d. d.now)) c.in-Some.is)

pub returns-in-None : goal.returns-in-None
returns-in-None c =
    let net = c.args.net.now in
    let f = failures_of c.args.scenario.now in
    let none = sym (c.case_of.ensures c.args.net.now c.requires.passes.0 c.requires.passes.1.made.lines) ∙ ap (option_map (λ d. d.now)) c.in-None.is in
    let besides : c.deref.result.now ≡ live_cuts net f = c.deref.ensures.value ∙ c.in_ok-cuts.ensures f c.new-survivors.ensures in
    let first = bare net (policy_of c.args.policy.now) c.requires.passes.0 c.args.evidence.now.cases c.known_net.ensures c.requires.fits c.requires.passes.1 c.args.scenario.now.prefix
    c.known_prefix.ensures f c.deref.result.now none besides in
    rw (c.new.ensures, c.in_ok-unchanged-in-None.ensures) first

pub returns : goal.returns
returns c =
    let net = c.args.net.now in
    let policy = policy_of c.args.policy.now in
    let f = failures_of c.args.scenario.now in
    let p = c.args.scenario.now.prefix in
    let t = c.new-survivors.result in
    let case = c.in-Some.case.now in
    let sources = c.deref-in-Some.result.now in
    let cuts = c.deref-in-Some-2.result.now in
    let at = sym (c.case_of.ensures c.args.net.now c.requires.passes.0 c.requires.passes.1.made.lines) ∙ ap (option_map (λ d. d.now)) c.in-Some.is in
    IfOk-weaker c.found_by.result (IsFound net t case sources cuts) (IsImpact net policy f p)
    (λ found is. whole net policy c.requires.passes.0 c.args.evidence.now.cases c.known_net.ensures c.requires.fits c.requires.passes.1 p c.known_prefix.ensures
    case f t (sources_of c.in_ok-claims-in-Some.claims) sources cuts found at c.new-survivors.ensures c.in_ok-claims-in-Some.ensures.claimed
    (c.deref-in-Some.ensures.value ∙ c.in_ok-sources-in-Some.ensures) (c.deref-in-Some-2.ensures.value ∙ c.in_ok-cuts.ensures f c.new-survivors.ensures) is) c.found_by.ensures
