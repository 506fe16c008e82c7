use Rattle.reach_prune.specs.Searches.{is_marked}
use Rattle.reach_prune.proofs.Keeping.{nodes_no, nodes_yes}
use Rattle.reach_prune.proofs.trimming.nodes_kept.Goals as goal
use Rattle.reach_prune.proofs.trimming.nodes_kept.Goals.{then-kept-i+in_ok-push, else-kept-i}

pub loop-i-preserved : goal.loop-i-preserved
loop-i-preserved c = elim c.if-kept-i.branch [
  | then-kept-i+in_ok-push w ↦
      rw (w.list-is, w.in_ok-push.ensures.ok) (nodes_yes (is_marked c.args.kept.now) c.loop-i.i w.index-nodes-i.result c.loop-i.list c.args.nodes.now
      _ c.loop-i-test.true w.index-nodes-i.is w.if-kept-i.true c.loop-i.invariant)
  | else-kept-i w ↦ rw w.list-is (nodes_no (is_marked c.args.kept.now) c.loop-i.i c.loop-i.list c.args.nodes.now _ c.loop-i-test.true w.if-kept-i.false c.loop-i.invariant)
]
