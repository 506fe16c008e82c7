use Rattle.std.proofs.Common.{◌-◌, length, not, ap, arith, sym, ◌∙◌}
use Rattle.scenarios.specs.Scenarios.{failures_of}
use Rattle.scenarios.proofs.Paths.{ends_heard_last, ends_heard_short}
use Rattle.scenarios.proofs.scenario.ends_heard.Goals as goal

pub returns-then-path-lt2 : goal.returns-then-path-lt2
returns-then-path-lt2 c = sym (ends_heard_short c.args.net.now (failures_of c.args.scenario.now) c.args.path.now c.if-path-lt2.true)

pub returns : goal.returns
returns c =
    ap not c.is_unheard.ensures
    ∙ sym (ends_heard_last c.args.net.now (failures_of c.args.scenario.now) c.args.path.now (length c.args.path.now - 2) (length c.args.path.now - 1)
    c.index-path-path.result c.index-path-path-2.result (omega arith) (omega arith) c.index-path-path.is c.index-path-path-2.is)
