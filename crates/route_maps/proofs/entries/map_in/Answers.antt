use Rattle.std.proofs.Common.{◌≡◌, rules, Some, None, length, sym, ◌∙◌}
use Rattle.std.specs.Prelude.{◌&&◌, ◌||◌}
use Rattle.std.specs.List.{find}
use Rattle.net_base.specs.Network.{is_peer}
use Rattle.config_base.specs.declared.config.Import.{Import}
use Rattle.config_base.specs.Lines.{block_at, same_tag}
use Rattle.config_base.proofs.LineLemmas.{lawful_block, lawful_tags}
use Rattle.route_maps.specs.Maps.{blocks, list_permits}
use Rattle.route_maps.proofs.EntryLemmas.{in_nowhere, in_unfound, in_found}
use Rattle.route_maps.proofs.entries.map_in.Goals as goal

pub returns-in_err-block : goal.returns-in_err-block
returns-in_err-block c =
    let none : block_at c.args.net.now (blocks c.args.maps.now) c.args.at c.args.from ≡ None = search rules in
    search (rules, in_nowhere c.args.net.now c.args.maps.now c.args.prefix c.args.at c.args.from c.args.path.now c.args.tag none)

pub returns-in_err-entry : goal.returns-in_err-entry
returns-in_err-entry c =
    let block : block_at c.args.net.now (blocks c.args.maps.now) c.args.at c.args.from ≡ Some c.in_ok-block.block.now = search rules in
    let none : find (λ (e : Import). list_permits c.args.maps.now e.class c.args.prefix && (is_peer c.args.net.now c.args.from || same_tag e.tag c.args.tag)) c.in_ok-block.block.now.imports
    ≡ None = search rules in
    c.from_residual-in_err-entry.ensures ∙ sym (in_unfound c.args.net.now c.args.maps.now c.args.prefix c.args.at c.args.from c.args.path.now c.args.tag c.in_ok-block.block.now block none)

pub import_by-requires-clause-order : goal.import_by-requires-clause-order
import_by-requires-clause-order c =
    let maps = c.args.maps.now in
    (lawful_block (length maps.lists) maps.routers c.routers.result.now c.in_ok-block.block.now c.routers.ensures.rules.routers c.routers.ensures.routers c.in_ok-block.ensures.rules).import_order

pub import_by-requires-clause-tags : goal.import_by-requires-clause-tags
import_by-requires-clause-tags c =
    let maps = c.args.maps.now in
    lawful_tags (length maps.lists) c.in_ok-block.block.now
    (lawful_block (length maps.lists) maps.routers c.routers.result.now c.in_ok-block.block.now c.routers.ensures.rules.routers c.routers.ensures.routers c.in_ok-block.ensures.rules)

pub returns : goal.returns
returns c =
    let block : block_at c.args.net.now (blocks c.args.maps.now) c.args.at c.args.from ≡ Some c.in_ok-block.block.now = search rules in
    let found : find (λ (e : Import). list_permits c.args.maps.now e.class c.args.prefix && (is_peer c.args.net.now c.args.from || same_tag e.tag c.args.tag)) c.in_ok-block.block.now.imports
    ≡ Some c.in_ok-entry.entry = search rules in
    c.import_by.ensures ∙ in_found c.args.net.now c.args.maps.now c.args.prefix c.args.at c.args.from c.args.path.now c.args.tag c.in_ok-block.block.now c.in_ok-entry.entry block found
