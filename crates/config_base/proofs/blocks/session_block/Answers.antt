use Rattle.std.proofs.Common.{◌≡◌, [], sym, ap, ◌∙◌, subst}
use Rattle.std.specs.List.{find}
use Rattle.std.specs.Option.{IfSome}
use Rattle.config_base.specs.Configs.{PlainConfig, IsSession}
use Rattle.config_base.proofs.SessionBlocks.{block_by_name, if_found, if_each_found, is_it, kind_found, no_block, nowhere}
use Rattle.config_base.proofs.blocks.session_block.Goals as goal

pub returns-then-not-is_router-clause-block : goal.returns-then-not-is_router-clause-block
returns-then-not-is_router-clause-block c =
    sym (no_block c.args.net.now (record { classes = []; routers = c.args.routers.now }) c.args.router c.args.neighbour c.in_ok-block.block.now (c.in_ok-block.ensures.block)
    (nowhere c.args.net.now c.args.neighbour c.if-not-peer.ensures c.if-not-is_router.ensures))

pub returns-clause-block : goal.returns-clause-block
returns-clause-block c =
    let config : PlainConfig = record { classes = []; routers = c.args.routers.now } in
    let found = c.block_named.ensures ∙ ap (find (is_it c.name_of.result c.is_peer-peer.result)) c.as_slice.ensures in
    let kind = ap (λ peer. find (is_it c.name_of.result peer) c.in_ok-block.block.now.sessions) c.is_peer-peer.ensures in
    found ∙ kind ∙ sym (block_by_name c.args.net.now config c.args.router c.args.neighbour c.in_ok-block.block.now c.name_of.result (c.in_ok-block.ensures.block) c.name_of.ensures)

pub returns-clause-rules : goal.returns-clause-rules
returns-clause-rules c count all =
    let found = c.block_named.ensures ∙ ap (find (is_it c.name_of.result c.is_peer-peer.result)) c.as_slice.ensures in
    if_each_found (λ b. b.now) (IsSession count)
    (is_it c.name_of.result c.is_peer-peer.result) c.in_ok-block.block.now.sessions c.block_named.result found
    (c.in_ok-block.ensures.rules count all).sessions

pub returns-clause-kind : goal.returns-clause-kind
returns-clause-kind c =
    let found = c.block_named.ensures ∙ ap (find (is_it c.name_of.result c.is_peer-peer.result)) c.as_slice.ensures in
    let here = if_found (λ b. b.now) (λ b. b.peer ≡ c.is_peer-peer.result) _ c.block_named.result found (kind_found c.name_of.result c.is_peer-peer.result c.in_ok-block.block.now.sessions) in
    subst (λ peer. IfSome c.block_named.result (λ b. b.now.peer ≡ peer)) c.is_peer-peer.ensures here
