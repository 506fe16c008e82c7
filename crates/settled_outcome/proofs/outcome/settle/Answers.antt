use Rattle.std.proofs.lemmas.Result.{IfOk-weaker}
use Rattle.scenarios.specs.Scenarios.{failures_of}
use Rattle.settled_outcome.proofs.outcome.settle.Goals as goal

pub settle_open-requires-clause-passes : goal.settle_open-requires-clause-passes
settle_open-requires-clause-passes c =
    let f = failures_of c.args.scenario.now in
    let config = c.requires.passes.0 in
    let passes = c.requires.passes.1 in
    (config, passes, (f, c.new-survivors.ensures, c.in_ok-left.ensures config passes f c.new-survivors.ensures))

pub returns-clause-settled : goal.returns-clause-settled
returns-clause-settled c =
    IfOk-weaker c.settle_open.result _ _ (λ outcome settled config passes. settled config passes (failures_of c.args.scenario.now) c.new-survivors.ensures) c.settle_open.ensures.settled
