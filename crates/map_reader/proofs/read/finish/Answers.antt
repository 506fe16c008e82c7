use Rattle.std.proofs.Common.{subst}
use Rattle.route_maps.specs.Maps.{IsMaps}
use Rattle.config_reader.proofs.CutLines.{whole_kept}
use Rattle.map_reader.proofs.MapCuts.{as_maps}
use Rattle.map_reader.proofs.read.finish.Goals as goal

pub new-requires : goal.new-requires
new-requires c =
    let kept =
    whole_kept c.args.reading.blocks.opened c.args.reading c.in_ok-lists.field-0 c.args.rest.now c.is_whole.result c.then_some.result c.ok_or.result
    c.is_whole.ensures c.then_some.ensures c.ok_or.ensures.value c.in_ok-lists.was in
    subst IsMaps (as_maps c.args.reading c.in_ok-lists.field-0 c.read_routers.result kept.1 c.read_routers.ensures) (c.requires kept.0)
