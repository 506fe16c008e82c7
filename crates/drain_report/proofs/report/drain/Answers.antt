use Rattle.std.proofs.Common.{◌≡◌, ◌++◌, ℕ, List, length, map, ap, arith, filter, ◌∙◌}
use Rattle.std.specs.Prelude.{is_some}
use Rattle.std.specs.List.{flat_map}
use Rattle.std.proofs.lemmas.List.Elements.{filter_agree}
use Rattle.std.specs.Option.{option_and_then}
use Rattle.policy_base.specs.Policies.{policy_of}
use Rattle.config_base.specs.Lines.{class_of}
use Rattle.evidence_base.specs.Made.{case_at}
use Rattle.outcome_base.specs.Outcomes.{offered}
use Rattle.scenarios.specs.Scenarios.{failures_of}
use Rattle.outcome_claims.specs.Offers.{offered_by}
use Rattle.outcome_claims.proofs.Offering.{offers_are}
use Rattle.impact_law.specs.Cuts.{live_cuts}
use Rattle.drain_report.specs.Free.{spared_by}
use Rattle.drain_report.specs.Steps.{held_steps, offer_step, steps_in}
use Rattle.drain_report.proofs.Sparing.{steps as steps_for}
use Rattle.drain_report.proofs.Telling.{spared_free, steps_by}
use Rattle.drain_report.proofs.report.drain.Goals as goal

pub returns : goal.returns
returns c = λ config passes.
    let net = c.args.net.now in
    let policy = policy_of c.args.policy.now in
    let cs = c.args.evidence.now.cases in
    let f = failures_of c.args.scenario.now in
    let p = c.args.scenario.now.prefix in
    let outcome = c.args.outcome.now.routes in
    let rules = c.known_net.ensures in
    let size = c.requires.size in
    let settled = c.requires.settled config passes in
    let of = c.in_ok-situation.ensures in
    let steps = c.in_ok-steps.steps in
    let left = c.new-spared.result.left in
    let ends = c.new-spared.result.ends in
    let case = of.case ∙ c.case_of-case.ensures net config passes.made.lines in
    let case_here = option_and_then (case_at cs) (class_of config p) in
    let same : steps_in c.in_ok-situation.situation ≡ steps_by net f outcome case_here = λ i. steps_by (of.net i) (failures_of (of.scenario i)) ((of.outcome i).routes) (case i) in
    let offers = offers_are net policy config cs rules c.requires.fits passes p c.known_prefix.ensures outcome f in
    let told : steps_by net f outcome case_here ≡ steps_for net policy config f p rules outcome size settled =
    ap (λ (links : List (ℕ × ℕ)). flat_map held_steps outcome ++ map offer_step links)
    (filter_agree (λ (link : ℕ × ℕ). is_some (offered_by net f outcome case_here link.0 link.1))
    (λ (link : ℕ × ℕ). is_some (offered net policy config f p outcome link.0 link.1)) (λ link. ap is_some (offers link.0 link.1)) net.links)
    in
    let are : steps ≡ steps_for net policy config f p rules outcome size settled = c.in_ok-steps.ensures ∙ same ∙ told in
    let cuts : c.in_ok-cuts.cuts.items ≡ live_cuts net f = c.in_ok-cuts.ensures f c.new-survivors.ensures in
    record {
      is_listed = spared_by net left ends;
      each =
          λ cut at. spared_free net steps left ends c.new-spared.ensures.left c.new-spared.ensures.ends policy config cs f p rules outcome size
          settled are c.requires.fits passes c.known_prefix.ensures cut at;
      free = c.in_ok-among.ensures ∙ ap (filter (spared_by net left ends)) (c.deref.ensures.value ∙ cuts);
      live = omega (arith, c.len.ensures, c.in_ok-cuts.cuts.ok.0, ap length cuts);
    }
