use Rattle.std.proofs.Common.{◌≡◌, List, Option, length, sym, ap, ◌∙◌}
use Rattle.std.proofs.lemmas.Result.{IfOk-weaker}
use Rattle.config_base.specs.declared.route.Route.{Route}
use Rattle.policy_base.specs.Policies.{policy_of}
use Rattle.scenarios.specs.Scenarios.{failures_of}
use Rattle.impact_law.specs.Cuts.{with_cut}
use Rattle.whatif_report.specs.Moves.{is_moved}
use Rattle.whatif_report.specs.Opened.{without_cut}
use Rattle.whatif_report.specs.Settling.{Settles, moves_in}
use Rattle.whatif_report.proofs.Besides.{same_survivors}
use Rattle.whatif_report.proofs.Following.{follows}
use Rattle.whatif_report.proofs.Opening.{open_with}
use Rattle.whatif_report.proofs.OneWhatIf.{settled_one}
use Rattle.whatif_report.proofs.settled.SettledNet.moves_anew.Goals as goal

pub settle_open-requires-clause-fits : goal.settle_open-requires-clause-fits
settle_open-requires-clause-fits c = c.requires.settled.fits

pub settle_open-requires-clause-passes : goal.settle_open-requires-clause-passes
settle_open-requires-clause-passes c =
    let s = c.args.self.now.situation.now in
    let net = s.net.now in
    let cut = c.args.cut.now in
    let f = failures_of s.scenario.now in
    let lives = same_survivors net (failures_of c.args.scenario.now) (with_cut cut f) c.new-survivors.result c.requires.scenario.failures c.new-survivors.ensures in (
      s.config.now,
      c.requires.settled.passes,
      (
        with_cut cut f,
        lives,
        λ case is.
            c.in_ok-left.ensures ∙ ap (without_cut cut) (c.requires.settled.left case is) ∙ open_with net cut f case.graph,
      ),
    )

pub moves_to-requires-clause-after : goal.moves_to-requires-clause-after
moves_to-requires-clause-after c =
    let of = c.new-after.ensures in
    follows c.args.self.now.situation.now c.new-after.result c.args.cut.now c.args.scenario.now of.rules of.net of.policy of.config of.scenario c.requires.scenario
    c.requires.settled.settled.size (ap (λ o. length o.routes) of.outcome ∙ c.in_ok-outcome.ensures.size)

pub moves_to-requires-clause-moved : goal.moves_to-requires-clause-moved
moves_to-requires-clause-moved c = λ r low.
    let before = c.args.self.now.situation.now.outcome.now.routes in
    let out : c.new-after.result.outcome.now.routes ≡ c.in_ok-outcome.outcome.routes = ap (λ o. o.routes) c.new-after.ensures.outcome in
    c.moved_routers-moved.ensures r low ∙ ap (λ (o : List (Option Route)). is_moved c.args.cut.now before o r) (sym out)

pub returns : goal.returns
returns c =
    let s = c.args.self.now.situation.now in
    let cut = c.args.cut.now in
    let settled = c.requires.settled in
    let net = s.net.now in
    let policy = policy_of s.policy.now in
    let f = failures_of s.scenario.now in
    let found = c.in_ok-outcome.outcome.routes in
    let out : c.new-after.result.outcome.now.routes ≡ found = ap (λ o. o.routes) c.new-after.ensures.outcome in
    let lives = same_survivors net (failures_of c.args.scenario.now) (with_cut cut f) c.new-survivors.result c.requires.scenario.failures c.new-survivors.ensures in
    let mine : Settles s (with_cut cut f) found =
    record { size = c.in_ok-outcome.ensures.size; stable = c.in_ok-outcome.ensures.settled s.config.now settled.passes (with_cut cut f) lives } in
    IfOk-weaker c.moves_to.result _ _ (λ moves told. λ after resettled.
    told ∙ ap (moves_in s cut) (out
    ∙ settled_one net policy s.config.now c.args.self.now.evidence.now.cases c.known_net.ensures settled.fits settled.passes s.scenario.now.prefix c.known_prefix.ensures (with_cut cut f)
    found after mine resettled)) c.moves_to.ensures
