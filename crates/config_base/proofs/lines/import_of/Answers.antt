use Rattle.std.proofs.Common.{length}
use Rattle.config_base.proofs.LineLemmas.{lawful_block, lawful_tags}
use Rattle.config_base.proofs.lines.import_of.Goals as goal

pub import_by-requires-clause-order : goal.import_by-requires-clause-order
import_by-requires-clause-order c =
    let config = c.args.config.now in
    (lawful_block
    (length config.classes) config.routers c.routers.result.now c.in_ok-block.block.now c.routers.ensures.rules.routers c.routers.ensures.routers c.in_ok-block.ensures.rules).import_order

pub import_by-requires-clause-tags : goal.import_by-requires-clause-tags
import_by-requires-clause-tags c =
    let config = c.args.config.now in
    lawful_tags (length config.classes) c.in_ok-block.block.now
    (lawful_block (length config.classes) config.routers c.routers.result.now c.in_ok-block.block.now c.routers.ensures.rules.routers c.routers.ensures.routers c.in_ok-block.ensures.rules)
