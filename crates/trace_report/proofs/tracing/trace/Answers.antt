use Rattle.std.proofs.Common.{◌≡◌, ap, ap₂, subst, ◌∙◌}
use Rattle.std.specs.Prelude.{IfOk, List}
use Rattle.std.proofs.lemmas.Result.{IfOk-weaker}
use Rattle.config_base.specs.declared.route.Route.{Route}
use Rattle.policy_base.specs.Policies.{policy_of}
use Rattle.event_base.specs.Speaking.{speakers_of}
use Rattle.event_base.specs.Steps.{opening, run}
use Rattle.event_base.specs.World.{Speakers, World}
use Rattle.event_state.specs.States.{speakers, state}
use Rattle.trace_report.specs.declared.refused.Refused.{Refused}
use Rattle.trace_report.specs.Refusals.{refused_from}
use Rattle.trace_report.specs.Trace.{IsTrace}
use Rattle.trace_report.proofs.tracing.trace.Goals as goal

pub returns : goal.returns
returns c =
    let net = c.args.net.now in
    let policy = policy_of c.args.policy.now in
    let config = c.args.config.now in
    let p = c.args.prefix in
    let es = c.args.events.now in
    let S = speakers_of net policy config p in
    let speak : speakers c.in_ok-world.world ≡ S = ap (λ s. speakers_of s.0 s.1 s.2 s.3) c.in_ok-world.ensures.setting in
    let start : state c.in_ok-world.world ≡ opening S = c.in_ok-world.ensures.world ∙ ap opening speak in
    let refused : c.deref.result.now ≡ refused_from S 1 es (opening S) = c.deref.ensures.value ∙ c.in_ok-refused.ensures.refused
    ∙ ap₂ (λ (s : Speakers Route) (w : World Route). refused_from s 1 es w) speak start in
    let world : state c.happen.new.world ≡ run S es (opening S) = c.in_ok-refused.ensures.world ∙ ap₂ (λ (s : Speakers Route) (w : World Route). run s es w) speak start in
    subst (λ (w : World Route). IfOk c.trace_report.result (λ text. IsTrace net policy config p (refused_from S 1 es (opening S)) w text.items)) world
    (subst (λ (all : List Refused). IfOk c.trace_report.result (λ text. IsTrace net policy config p all (state c.happen.new.world) text.items)) refused
    (IfOk-weaker c.trace_report.result _ _ (λ text told. told config c.requires.passes) c.trace_report.ensures))
