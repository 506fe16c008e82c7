use Rattle.std.proofs.Common.{◌≡◌, ◌∙◌, ap, ap₂, subst}
use Rattle.std.proofs.lemmas.Result.{IfOk-weaker}
use Rattle.config_base.specs.declared.route.Route.{Route}
use Rattle.net_base.specs.Network.{PlainNet}
use Rattle.policy_base.specs.Policies.{policy_of}
use Rattle.event_base.specs.Speaking.{speakers_of}
use Rattle.event_base.specs.Steps.{opening, run}
use Rattle.event_base.specs.World.{Speakers, World}
use Rattle.event_state.specs.States.{speakers, state}
use Rattle.waiting_report.specs.Waiting.{Tells}
use Rattle.waiting_report.proofs.OnLinks.{on_links}
use Rattle.waiting_report.proofs.after_events.waiting.Goals as goal

pub returns : goal.returns
returns c =
    let net = c.args.net.now in
    let policy = policy_of c.args.policy.now in
    let config = c.args.config.now in
    let p = c.args.prefix in
    let es = c.args.events.now in
    let S = speakers_of net policy config p in
    let before = c.in_ok-world.world in
    let after = c.happen.new.world in
    let speak : speakers before ≡ S = ap (λ s. speakers_of s.0 s.1 s.2 s.3) c.in_ok-world.ensures.setting in
    let start : state before ≡ opening S = c.in_ok-world.ensures.world ∙ ap opening speak in
    let world : state after ≡ run S es (opening S) = c.in_ok-happen.ensures.world ∙ ap₂ (λ (s : Speakers Route) (w : World Route). run s es w) speak start in
    let same : after.net.now ≡ net = ap (λ s. s.0) (c.in_ok-happen.ensures.setting ∙ c.in_ok-world.ensures.setting) in
    IfOk-weaker c.told.result _ _ (λ text told. record {
      told = subst (λ (w : World Route). Tells net w text.items) world (subst (λ (n : PlainNet). Tells n (state after) text.items) same told);
      on_links = on_links net policy config p es c.known_net.ensures;
    }) c.told.ensures
