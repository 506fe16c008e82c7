use Rattle.std.proofs.Common.{◌<◌, length, arith}
use Rattle.list_law.proofs.Each.{AllByRecursion-push}
use Rattle.node_quotient.proofs.partition.names.Goals as goal
use Rattle.node_quotient.proofs.partition.names.Goals.{then-classes-node+in_ok-push, else-classes-node}

pub loop-node-preserved : goal.loop-node-preserved
loop-node-preserved c = record {
  end = omega (arith, c.loop-node-test.true);
  below = elim c.if-classes-node.branch [
    | then-classes-node+in_ok-push w ↦
        rw (w.names-is, w.in_ok-push.ensures.items)
        (AllByRecursion-push (λ n. n < length c.args.classes.now) c.loop-node.names.items c.loop-node.node c.loop-node.invariant.below c.loop-node-test.true)
    | else-classes-node w ↦ rw w.names-is c.loop-node.invariant.below
  ];
}
