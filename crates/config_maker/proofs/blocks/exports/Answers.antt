use Rattle.std.proofs.Common.{[]}
use Rattle.config_maker.specs.Writing.{export_line}
use Rattle.config_maker.proofs.Gathering.{one_more}
use Rattle.config_maker.proofs.blocks.exports.Goals as goal

pub loop-hop-preserved : goal.loop-hop-preserved
loop-hop-preserved c =
    let hop = c.hop-item.result in
    one_more export_line [] c.args.sent.now c.loop-hop.hop-index hop hop c.loop-hop-test.true c.hop-item.is c.in_ok-push.ensures.items c.loop-hop.invariant
