use Rattle.std.proofs.Common.{◌≡◌, ◌≤◌, List, ◌++◌, sym, ap, ap₂, subst, ◌∙◌}
use Rattle.std.specs.List.{flat_map}
use Rattle.net_base.specs.Network.{PlainNet}
use Rattle.config_base.specs.declared.route.Route.{Route}
use Rattle.policy_base.specs.Policies.{policy_of}
use Rattle.event_base.specs.Speaking.{speakers_of}
use Rattle.event_base.specs.Steps.{opening, run}
use Rattle.event_base.specs.World.{Speakers, World}
use Rattle.event_state.specs.States.{setting, speakers, state}
use Rattle.event_rest.proofs.Corner.{passing_evidence_comes_to_rest}
use Rattle.rest_law.specs.Rest.{ComesToRest, rounds_enough}
use Rattle.settle_report.proofs.Settled.{HasRested, settlement}
use Rattle.settle_report.specs.Lines.{deliveries_line, rounds_line}
use Rattle.trace_report.specs.Lines.{refused_line}
use Rattle.trace_report.specs.Refusals.{refused_from}
use Rattle.trace_report.specs.declared.refused.Refused.{Refused}
use Rattle.settle_report.proofs.settling.settle_events.Goals as goal

pub come_to_rest-requires-clause-rests : goal.come_to_rest-requires-clause-rests
come_to_rest-requires-clause-rests c =
    subst (λ s. ComesToRest s.0 s.1 s.2 s.3) (sym (c.in_ok-refused.ensures.setting ∙ c.in_ok-world.ensures.setting))
    (passing_evidence_comes_to_rest c.args.net.now
    (policy_of c.args.policy.now) c.args.config.now c.args.evidence.now.cases c.known_net.ensures c.requires.fits c.requires.passes c.args.prefix c.known_prefix.ensures)

pub returns : goal.returns
returns c =
    let net = c.args.net.now in
    let policy = policy_of c.args.policy.now in
    let config = c.args.config.now in
    let p = c.args.prefix in
    let es = c.args.events.now in
    let S = speakers_of net policy config p in
    let rest = c.in_ok-rest.rest in
    let set : setting c.happen.new.world ≡ (net, policy, config, p) = c.in_ok-refused.ensures.setting ∙ c.in_ok-world.ensures.setting in
    let speak_first : speakers c.in_ok-world.world ≡ S = ap (λ s. speakers_of s.0 s.1 s.2 s.3) c.in_ok-world.ensures.setting in
    let speak : speakers c.happen.new.world ≡ S = ap (λ s. speakers_of s.0 s.1 s.2 s.3) set in
    let start : state c.in_ok-world.world ≡ opening S = c.in_ok-world.ensures.world ∙ ap opening speak_first in
    let world : state c.happen.new.world ≡ run S es (opening S) = c.in_ok-refused.ensures.world ∙ ap₂ (λ (s : Speakers Route) (w : World Route). run s es w) speak_first start in
    let refused : c.deref.result.now ≡ refused_from S 1 es (opening S) = c.deref.ensures.value ∙ c.in_ok-refused.ensures.refused
    ∙ ap₂ (λ (s : Speakers Route) (w : World Route). refused_from s 1 es w) speak_first start in
    let last : World Route = state c.come_to_rest.new.world in
    let here : HasRested c.happen.new.world.net.now.links (speakers c.happen.new.world) (state c.happen.new.world) rest.rounds rest.deliveries last = record {
      first = c.in_ok-rest.ensures.first;
      counted = c.in_ok-rest.ensures.deliveries;
      world = c.in_ok-rest.ensures.world;
    } in
    let linked = subst (λ (m : PlainNet). HasRested m.links (speakers c.happen.new.world) (state c.happen.new.world) rest.rounds rest.deliveries last) (ap (λ s. s.0) set) here in
    let spoken = subst (λ (s : Speakers Route). HasRested net.links s (state c.happen.new.world) rest.rounds rest.deliveries last) speak linked in
    let rested = subst (λ (w : World Route). HasRested net.links S w rest.rounds rest.deliveries last) world spoken in
    let enough = subst (λ (m : PlainNet). rest.rounds ≤ rounds_enough m) (ap (λ s. s.0) set) c.in_ok-rest.ensures.enough in
    let added = c.in_ok-push_report.ensures config c.requires.passes in
    let told = c.in_ok-push_rest.ensures
    ∙ ap (λ t. t ++ rounds_line rest.rounds ++ deliveries_line rest.deliveries) (c.in_ok-push_each_refused.ensures ∙ ap (λ t. t ++ flat_map refused_line c.deref.result.now) c.new-text.ensures.items
    ∙ ap (λ (all : List Refused). flat_map refused_line all) refused) in
    settlement net policy config c.args.evidence.now.cases c.known_net.ensures c.requires.fits c.requires.passes p c.known_prefix.ensures es
    rest.rounds rest.deliveries last added.0 c.push_report.new.text.items
    enough rested added.1 (added.2 ∙ ap (λ t. t ++ added.0) told)
