use Rattle.std.proofs.Common.{◌∙◌}
use Rattle.pair_changes.proofs.KindSteps.{kinds_same}
use Rattle.pair_changes.proofs.kinds.add_if.Goals as goal

pub returns-in-None-clause-kinds : goal.returns-in-None-clause-kinds
returns-in-None-clause-kinds c = λ way_at done are is last. kinds_same way_at done c.args.kinds.now.items are c.args.place.now (is ∙ c.in-None.is)
