use Rattle.std.proofs.Common.{◌≡◌, List, Option, length, sym, ap, ◌∙◌}
use Rattle.std.proofs.lemmas.Result.{IfOk-weaker}
use Rattle.config_base.specs.declared.route.Route.{Route}
use Rattle.policy_base.specs.Policies.{policy_of}
use Rattle.scenarios.specs.Scenarios.{failures_of}
use Rattle.drain_report.proofs.Moving.{keeps}
use Rattle.whatif_report.specs.Moves.{is_moved}
use Rattle.whatif_report.specs.Settling.{moves_in}
use Rattle.whatif_report.proofs.Following.{follows}
use Rattle.whatif_report.proofs.Alike.{moves_alike}
use Rattle.whatif_report.proofs.Touching.{stays_put}
use Rattle.whatif_report.proofs.settled.SettledNet.moves_off_routes.Goals as goal

pub moves_to-requires-clause-after : goal.moves_to-requires-clause-after
moves_to-requires-clause-after c =
    let of = c.new-after.ensures in
    let size = c.requires.settled.settled.size in
    follows c.args.self.now.situation.now c.new-after.result c.args.cut.now c.args.scenario.now of.rules of.net of.policy of.config of.scenario c.requires.scenario
    size (ap (λ o. length o.routes) of.outcome ∙ size)

pub moves_to-requires-clause-moved : goal.moves_to-requires-clause-moved
moves_to-requires-clause-moved c = λ r low.
    let before = c.args.self.now.situation.now.outcome.now.routes in
    let out : c.new-after.result.outcome.now.routes ≡ before = ap (λ o. o.routes) c.new-after.ensures.outcome in
    c.new-nobody.ensures.holds r ∙ sym (stays_put c.args.cut.now before r) ∙ ap (λ (o : List (Option Route)). is_moved c.args.cut.now before o r) (sym out)

pub returns : goal.returns
returns c =
    let s = c.args.self.now.situation.now in
    let cut = c.args.cut.now in
    let settled = c.requires.settled in
    let net = s.net.now in
    let policy = policy_of s.policy.now in
    let before = s.outcome.now.routes in
    let out : c.new-after.result.outcome.now.routes ≡ before = ap (λ o. o.routes) c.new-after.ensures.outcome in
    IfOk-weaker c.moves_to.result _ _ (λ moves told. λ after resettled.
    told ∙ ap (moves_in s cut) out
    ∙ moves_alike s c.known_net.ensures cut before after
    (keeps net policy s.config.now c.args.self.now.evidence.now.cases c.known_net.ensures settled.fits settled.passes s.scenario.now.prefix (failures_of s.scenario.now) cut c.known_prefix.ensures
    before after settled.settled.size settled.settled.stable c.requires.off resettled.size resettled.stable)) c.moves_to.ensures
