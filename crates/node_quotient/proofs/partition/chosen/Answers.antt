use Rattle.std.proofs.Common.{◌++◌, ◌∷◌, [], get_or, filter, take, sym, ap, ◌∙◌}
use Rattle.std.proofs.lemmas.Bool.{cond-true, cond-false}
use Rattle.std.proofs.lemmas.List.{append-nil}
use Rattle.std.proofs.lemmas.List.Elements.{filter_more}
use Rattle.reach_prune.specs.Searches.{is_marked}
use Rattle.node_quotient.specs.Splits.{has_mark}
use Rattle.node_quotient.proofs.Hits.{marked_as}
use Rattle.node_quotient.proofs.partition.chosen.Goals as goal
use Rattle.node_quotient.proofs.partition.chosen.Goals.{then-marks-node+in_ok-push, else-marks-node}

pub loop-node-preserved : goal.loop-node-preserved
loop-node-preserved c =
    let has = has_mark c.args.marks.now c.args.marked in
    let list = c.args.list.now in
    let i = c.loop-node.node-index in
    let node = get_or list i 0 in
    let is = marked_as (is_marked c.args.marks.now node) c.args.marked in
    let more = filter_more has list i 0 c.loop-node-test.true in
    elim c.if-marks-node.branch [
      | then-marks-node+in_ok-push w ↦
          w.chosen-is ∙ w.in_ok-push.ensures.ok ∙ ap (λ l. l ++ node ∷ []) c.loop-node.invariant
          ∙ sym (more ∙ ap (λ l. filter has (take i list) ++ l) (cond-true (has node) (node ∷ []) [] (is ∙ w.if-marks-node.true)))
      | else-marks-node w ↦
          w.chosen-is ∙ c.loop-node.invariant
          ∙ sym (more ∙ ap (λ l. filter has (take i list) ++ l) (cond-false (has node) (node ∷ []) [] (is ∙ w.if-marks-node.false)) ∙ append-nil (filter has (take i list)))
    ]
