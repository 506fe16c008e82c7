use Rattle.std.proofs.Common.{length}
use Rattle.config_base.proofs.LineLemmas.{lawful_block}
use Rattle.config_base.proofs.lines.export_of.Goals as goal

pub export_by-requires : goal.export_by-requires
export_by-requires c =
    let config = c.args.config.now in
    (lawful_block
    (length config.classes) config.routers c.routers.result.now c.in_ok-block.block.now c.routers.ensures.rules.routers c.routers.ensures.routers c.in_ok-block.ensures.rules).export_order
