use Rattle.std.proofs.Common.{◌≡◌, ap, sym, ◌∙◌, true, false}
use Rattle.std.specs.Option.{is_some}
use Rattle.graph_base.specs.declared.graph.Node.{Node}
use Rattle.graph_base.specs.Runs.{rank_at}
use Rattle.reach_prune.proofs.Keeping.{rank_read, ranked_all, ranked_no, ranked_nodes, ranked_yes}
use Rattle.reach_prune.proofs.trimming.ranked_nodes.Goals as goal
use Rattle.reach_prune.proofs.trimming.ranked_nodes.Goals.{then-is_some+in_ok-push, else-is_some}

pub loop-i-preserved : goal.loop-i-preserved
loop-i-preserved c = λ n.
    let g = c.args.graph.now in
    let rank = rank_read g c.nodes-nodes.result.now c.loop-i.i c.index-nodes-i.result c.nodes-nodes.ensures.nodes c.loop-i-test.true c.index-nodes-i.is in
    elim c.if-is_some.branch [
      | then-is_some+in_ok-push w ↦ (
          let here : is_some (rank_at g c.loop-i.i) ≡ true = ap is_some rank ∙ ap (λ (node : Node). is_some node.rank) c.index-nodes-i.is ∙ sym c.is_some.ensures ∙ w.if-is_some.true in
          rw (w.ranked-is, w.in_ok-push.ensures.items) (ranked_yes c.loop-i.ranked.items (λ n. is_some (rank_at g n)) c.loop-i.i n (c.loop-i.invariant n) here))
      | else-is_some w ↦ (
          let here : is_some (rank_at g c.loop-i.i) ≡ false = ap is_some rank ∙ ap (λ (node : Node). is_some node.rank) c.index-nodes-i.is ∙ sym c.is_some.ensures ∙ w.if-is_some.false in
          rw w.ranked-is (ranked_no c.loop-i.ranked.items (λ n. is_some (rank_at g n)) c.loop-i.i n (c.loop-i.invariant n) here))
    ]

pub returns-clause-ranked : goal.returns-clause-ranked
returns-clause-ranked c = λ n.
    c.loop-i.invariant n ∙ ranked_all c.args.graph.now c.loop-i.i n (rw (sym c.nodes-nodes.ensures.nodes) c.loop-i-test.false)

pub returns-clause-nodes : goal.returns-clause-nodes
returns-clause-nodes c = ranked_nodes c.args.graph.now c.loop-i.ranked.items (λ n.
    c.loop-i.invariant n ∙ ranked_all c.args.graph.now c.loop-i.i n (rw (sym c.nodes-nodes.ensures.nodes) c.loop-i-test.false))
