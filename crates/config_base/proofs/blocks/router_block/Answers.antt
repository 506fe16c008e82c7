use Rattle.std.proofs.Common.{Some, sym}
use Rattle.net_base.specs.Network.{is_named}
use Rattle.config_base.specs.declared.config.RouterConfig.{RouterConfig}
use Rattle.config_base.specs.Configs.{IsRouter}
use Rattle.config_base.proofs.SessionBlocks.{if_each_found}
use Rattle.config_base.proofs.blocks.router_block.Goals as goal

pub returns-in-Some-clause-rules : goal.returns-in-Some-clause-rules
returns-in-Some-clause-rules c count all =
    if_each_found (λ (b : RouterConfig). b) (IsRouter count) (λ (b : RouterConfig). is_named c.args.net.now b.name c.args.router) c.args.routers.now
    (Some c.in-Some.block.now) (sym c.in-Some.ensures) all

pub returns-in-None-clause-rules : goal.returns-in-None-clause-rules
returns-in-None-clause-rules c count all =
    if_each_found (λ b. b.now) (IsRouter count) (λ (b : RouterConfig). is_named c.args.net.now b.name c.args.router) c.args.routers.now c.named_block.result c.named_block.ensures all
