use Rattle.std.proofs.Common.{◌≡◌, Some, sym, ap, ◌∙◌}
use Rattle.std.specs.Prelude.{slice_get}
use Rattle.std.proofs.lemmas.Bool.{ltb-true}
use Rattle.std.proofs.lemmas.Option.{slice_get-get_or}
use Rattle.config_base.proofs.NamedBlocks.{named_in_place}
use Rattle.config_base.proofs.blocks.block_in_place.Goals as goal

pub returns-then-is_named : goal.returns-then-is_named
returns-then-is_named c =
    let look = c.in_ok-block.ensures.lookup in
    let at : slice_get c.args.routers.now c.number.result ≡ Some c.in_ok-block.block.now = slice_get-get_or c.args.routers.now c.number.result _ (ltb-true _ _ (sym look.0)) ∙ ap Some (sym look.1) in
    named_in_place c.args.net.now c.args.router c.number.result c.args.routers.now c.in_ok-block.block.now c.requires at (sym c.is_named.ensures ∙ c.if-is_named.true)
