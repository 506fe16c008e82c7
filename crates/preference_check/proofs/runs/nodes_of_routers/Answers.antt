use Rattle.std.proofs.Common.{◌+◌, ◌<◌, ◌≤◌, ◌++◌, ◌∷◌, [], ◌∙◌, ap, sym, subst, arith, length, get_or, set, length-set}
use Rattle.std.proofs.lemmas.List.{get_or_read}
use Rattle.preference_check.specs.declared.runs.Numbered.{Numbered}
use Rattle.preference_check.proofs.RunLemmas.{HasNodesBelow, node_elsewhere, node_there}
use Rattle.preference_check.proofs.runs.nodes_of_routers.Goals as goal
use Rattle.preference_check.proofs.runs.nodes_of_routers.Goals.{then-at-len+in_ok-push, else-at-len}

pub loop-node-preserved : goal.loop-node-preserved
loop-node-preserved c =
    let g = c.args.graph.now in
    let numbers = c.args.numbers.now in
    let size = length c.args.net.now.routers in
    let all = c.loop-node.all.items in
    let place = c.number-at.result in
    let at_place = c.number-at.ensures ∙ c.location.ensures in
    elim c.if-at-len.branch [
      | then-at-len+in_ok-push w ↦ (
          let within : place < length all = omega (arith, w.if-at-len.true, c.len.ensures, c.loop-node.all.ok.0) in
          let read = get_or_read all place _ within w.index_mut.ensures.value [] in
          let pushed = w.in_ok-push.ensures.ok ∙ ap (λ l. l ++ w.with_number.result ∷ []) read ∙ ap (λ (x : Numbered). get_or all place [] ++ x ∷ []) w.with_number.ensures in
          let items = ap (λ v. v.items) w.all-is ∙ ap (set all place) pushed in
          record {
            size = ap length items ∙ length-set _ _ _ ∙ c.loop-node.invariant.size;
            nodes = subst (HasNodesBelow g numbers size (c.loop-node.node + 1)) (sym items) (node_there g numbers size c.loop-node.node place all at_place c.loop-node.invariant.nodes within);
          })
      | else-at-len w ↦ (
          let past : size ≤ place = omega (arith, w.if-at-len.false, c.len.ensures, c.loop-node.all.ok.0, c.loop-node.invariant.size) in
          record {
            size = ap (λ v. length v.items) w.all-is ∙ c.loop-node.invariant.size;
            nodes =
                subst (λ v. HasNodesBelow g numbers size (c.loop-node.node + 1) v.items) (sym w.all-is)
                (node_elsewhere g numbers size c.loop-node.node place all at_place c.loop-node.invariant.nodes past);
          })
    ]
