use Rattle.std.proofs.Common.{◌≡◌, length}
use Rattle.scenarios.specs.declared.outcome.Outcome.{Outcome}
use Rattle.input_texts.proofs.ReadTexts.{read_holds}
use Rattle.input_texts.proofs.texts.tables_for.Goals as goal

pub returns-clause-size : goal.returns-clause-size
returns-clause-size c =
    read_holds (λ (outcome : Outcome). length outcome.routes ≡ length c.args.net.now.routers) c.read_tables.result c.read_tables.ensures.size
    c.or_told.result c.or_told.ensures.same
