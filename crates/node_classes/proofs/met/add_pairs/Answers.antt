use Rattle.std.proofs.Common.{◌<◌, arith, length}
use Rattle.node_classes.proofs.Finding.{pairs_more}
use Rattle.node_classes.proofs.met.add_pairs.Goals as goal

pub loop-i-preserved : goal.loop-i-preserved
loop-i-preserved c =
    let inside : c.loop-i.i < length c.args.one.now = c.loop-i-test.true in
    pairs_more c.args.one.now c.args.other.now c.args.found.now.keys c.loop-i.found.keys c.insert.new.self.keys c.loop-i.i _ inside
    (omega (arith, inside, c.requires)) c.loop-i.invariant c.in_ok-insert.ensures.keys
