use Rattle.std.proofs.Common.{◌≡◌, rules, Some, None, length, sym, ◌∙◌}
use Rattle.std.specs.Prelude.{◌&&◌}
use Rattle.std.specs.List.{find}
use Rattle.config_base.specs.declared.config.Export.{Export}
use Rattle.config_base.specs.Lines.{block_at, same_tag}
use Rattle.config_base.proofs.LineLemmas.{lawful_block}
use Rattle.route_maps.specs.Maps.{blocks, list_permits}
use Rattle.route_maps.proofs.EntryLemmas.{out_unfound, out_found}
use Rattle.route_maps.proofs.entries.map_out.Goals as goal

pub returns-in_err-entry : goal.returns-in_err-entry
returns-in_err-entry c =
    let block : block_at c.args.net.now (blocks c.args.maps.now) c.args.from c.args.to ≡ Some c.in_ok-block.block.now = search rules in
    let none : find (λ (e : Export). list_permits c.args.maps.now e.class c.args.prefix && same_tag e.tag c.args.route.now.tag) c.in_ok-block.block.now.exports ≡ None = search rules in
    c.from_residual-in_err-entry.ensures ∙ sym (out_unfound c.args.net.now c.args.maps.now c.args.prefix c.args.from c.args.to c.args.route.now.tag c.in_ok-block.block.now block none)

pub export_by-requires : goal.export_by-requires
export_by-requires c =
    let maps = c.args.maps.now in
    (lawful_block (length maps.lists) maps.routers c.routers.result.now c.in_ok-block.block.now c.routers.ensures.rules.routers c.routers.ensures.routers c.in_ok-block.ensures.rules).export_order

pub returns : goal.returns
returns c =
    let block : block_at c.args.net.now (blocks c.args.maps.now) c.args.from c.args.to ≡ Some c.in_ok-block.block.now = search rules in
    let found : find (λ (e : Export). list_permits c.args.maps.now e.class c.args.prefix && same_tag e.tag c.args.route.now.tag) c.in_ok-block.block.now.exports
    ≡ Some c.in_ok-entry.entry = search rules in
    c.export_by.ensures ∙ out_found c.args.net.now c.args.maps.now c.args.prefix c.args.from c.args.to c.args.route.now.tag c.in_ok-block.block.now c.in_ok-entry.entry block found
