use Rattle.std.proofs.Common.{ap, arith, length}
use Rattle.graph_base.specs.Preferences.{number_in}
use Rattle.preference_check.proofs.OneNumber.{noted_more, noted_one}
use Rattle.preference_check.proofs.loops.have_one_number.Goals as goal

pub loop-node-preserved : goal.loop-node-preserved
loop-node-preserved c =
    noted_more c.args.graph.now (number_in c.args.numbers.now) c.loop-node.noted.least.items c.note_number.new.noted.least.items c.loop-node.node c.loop-node.invariant c.in_ok-note_number.ensures.kept
    (c.in_ok-note_number.ensures.here c.if-not-branch.false)

pub returns-clause-one : goal.returns-clause-one
returns-clause-one c = λ one.
    noted_one c.args.graph.now (number_in c.args.numbers.now) c.loop-node.noted.least.items (length c.args.graph.now.nodes)
    (λ k v lt. c.loop-node.invariant k v (omega (arith, lt, c.loop-node-test.false, ap length c.nodes.ensures.nodes)))
