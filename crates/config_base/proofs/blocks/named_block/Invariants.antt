use Rattle.std.proofs.Common.{◌≡◌, drop}
use Rattle.std.specs.List.{find}
use Rattle.net_base.specs.Network.{is_named}
use Rattle.config_base.specs.declared.config.RouterConfig.{RouterConfig}
use Rattle.config_base.proofs.blocks.named_block.Given as goal

abbrev pub invariant-loop-block : goal.invariant-loop-block
invariant-loop-block l =
    find (λ (c : RouterConfig). is_named l.net c.name l.router) l.routers ≡ find (λ (c : RouterConfig). is_named l.net c.name l.router) (drop l.block-index l.routers)
