use Rattle.std.proofs.Common.{not, ap, sym, ◌∙◌}
use Rattle.std.specs.Prelude.{◌&&◌}
use Rattle.policy_base.specs.Meaning.{some_step}
use Rattle.outcome_base.specs.Outcomes.{is_dead_link}
use Rattle.scenarios.specs.Scenarios.{failures_of}
use Rattle.scenarios.proofs.Paths.{passes_live_is}
use Rattle.scenarios.proofs.scenario.passes_live.Goals as goal

pub returns-then-has_dead_location : goal.returns-then-has_dead_location
returns-then-has_dead_location c =
    let f = failures_of c.args.scenario.now in
    sym (passes_live_is f c.args.path.now ∙ ap (λ x. not x && not (some_step (is_dead_link f) c.args.path.now)) (sym c.has_dead_location.ensures ∙ c.if-has_dead_location.true))

pub returns : goal.returns
returns c =
    let f = failures_of c.args.scenario.now in
    sym (
    passes_live_is f c.args.path.now ∙ ap (λ x. not x && not (some_step (is_dead_link f) c.args.path.now)) (sym c.has_dead_location.ensures ∙ c.if-has_dead_location.false)
    ∙ ap not (sym c.has_dead_link.ensures))
