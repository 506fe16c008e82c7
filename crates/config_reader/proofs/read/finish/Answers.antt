use Rattle.std.proofs.Common.{subst}
use Rattle.config_base.specs.Configs.{IsConfig}
use Rattle.config_reader.specs.declared.reading.Reading.{Reading}
use Rattle.config_reader.proofs.CutLines.{whole_kept}
use Rattle.config_reader.proofs.read.finish.Goals as goal

pub config_of-requires : goal.config_of-requires
config_of-requires c =
    let kept =
    whole_kept c.args.reading.opened c.args.reading c.in_ok-whole.whole c.args.rest.now c.is_whole.result c.then_some.result c.ok_or.result
    c.is_whole.ensures c.then_some.ensures c.ok_or.ensures.value c.in_ok-whole.was in
    subst (λ (r : Reading). IsConfig (record { classes = r.classes; routers = r.routers })) kept.1 (c.requires kept.0)
