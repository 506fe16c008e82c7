use Rattle.std.proofs.Common.{◌<◌, ℕ, IsTrue, ap, sym, subst, ◌∙◌, arith, length, get_or, length-set, false}
use Rattle.std.proofs.lemmas.List.{get_or_read}
use Rattle.graph_base.proofs.StartsAndSteps.{step_nodes}
use Rattle.reach_prune.specs.Searches.{is_marked}
use Rattle.walk_check.proofs.ReachedNodes.{marked_step, step_here}
use Rattle.walk_check.proofs.ended.pass_on.Goals as goal
use Rattle.walk_check.proofs.ended.pass_on.Goals.{then-index, else-index}

pub loop-step-preserved : goal.loop-step-preserved
loop-step-preserved c =
    let g = c.args.graph.now in
    let steps = c.steps-step-items.result.now in
    let i = c.loop-step.step-index in
    let none : ℕ × ℕ = (0, 0) in
    let x : ℕ × ℕ = get_or steps i none in
    let within : i < length steps = c.loop-step-test.true in
    let goes = step_here g steps i c.steps-step-items.ensures.steps within in
    let node = (step_nodes g x.0 x.1 c.steps-step-items.ensures.rules goes).0 in
    let from : x.0 < length c.loop-step.marks.items = omega (arith, node, c.loop-step.invariant.size) in
    elim c.if-index.branch [
      | then-index w ↦ record {
        size = ap (λ v. length v.items) w.marks-is ∙ length-set _ _ _ ∙ c.loop-step.invariant.size;
        reached =
            λ n h. marked_step g c.loop-step.marks.items x.0 x.1 n goes c.loop-step.invariant.reached
            (sym (get_or_read c.loop-step.marks.items x.0 _ from c.index.ensures false) ∙ w.if-index.true)
            (subst (λ v. IsTrue (is_marked v.items n)) w.marks-is h);
      }
      | else-index w ↦ record {
        size = ap (λ v. length v.items) w.marks-is ∙ c.loop-step.invariant.size;
        reached = λ n h. c.loop-step.invariant.reached n (subst (λ v. IsTrue (is_marked v.items n)) w.marks-is h);
      }
    ]
