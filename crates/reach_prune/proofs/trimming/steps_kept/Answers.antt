use Rattle.std.proofs.Common.{sym, ◌∙◌}
use Rattle.reach_prune.specs.Numbers.{step_in}
use Rattle.list_law.proofs.Changed.{filter_map_no, filter_map_yes}
use Rattle.reach_prune.proofs.trimming.steps_kept.Goals as goal
use Rattle.reach_prune.proofs.trimming.steps_kept.Goals.{in-Some+in_ok-push, in_default}

pub loop-step-preserved : goal.loop-step-preserved
loop-step-preserved c = elim c.match-step_kept.branch [
  | in-Some+in_ok-push w ↦ rw (w.list-is, w.in_ok-push.ensures.ok, c.loop-step.invariant) (
      sym (filter_map_yes (step_in c.args.numbers.now) c.args.steps.now c.loop-step.step-index (0, 0) w.in-Some.renumbered c.loop-step-test.true (sym c.step_kept.ensures ∙ w.in-Some.is)))
  | in_default w ↦ rw (w.list-is, c.loop-step.invariant) (
      sym (filter_map_no (step_in c.args.numbers.now) c.args.steps.now c.loop-step.step-index (0, 0) c.loop-step-test.true (sym c.step_kept.ensures ∙ w.in_default.is)))
]
