use Rattle.std.proofs.Common.{◌≡◌, ◌<◌, ◌||◌, ℕ, List, length, get_or, take, refl, sym, ap, ◌∙◌, arith}
use Rattle.std.specs.List.{list_any}
use Rattle.std.proofs.lemmas.List.{take_all}
use Rattle.std.proofs.lemmas.List.Folds.{list_any_more}
use Rattle.std.proofs.Math.Bool.{or-false}
use Rattle.bit_rows.specs.Tables.{has_at}
use Rattle.graph_base.proofs.StartsAndSteps.{step_ends}
use Rattle.promises_report.specs.Tables.{step_sets}
use Rattle.promises_report.proofs.Marking.{same_size, set_more, table_kept}
use Rattle.promises_report.proofs.source_ranks.mark_steps.Goals as goal

pub mark_step-requires-clause-size : goal.mark_step-requires-clause-size
mark_step-requires-clause-size c = table_kept c.args.net.now c.args.ranks c.loop-step.rows c.args.rows.now c.loop-step.invariant.size c.requires.size

pub mark_step-requires-clause-from : goal.mark_step-requires-clause-from
mark_step-requires-clause-from c =
    (step_ends c.args.graph.now c.steps-step-items.result.now c.loop-step.step-index c.steps-step-items.ensures.rules c.steps-step-items.ensures.steps c.loop-step-test.true).0

pub mark_step-requires-clause-to : goal.mark_step-requires-clause-to
mark_step-requires-clause-to c =
    (step_ends c.args.graph.now c.steps-step-items.result.now c.loop-step.step-index c.steps-step-items.ensures.rules c.steps-step-items.ensures.steps c.loop-step-test.true).1

pub loop-step-init : goal.loop-step-init
loop-step-init c = record {
  size = record { count = refl; bits = refl; width = refl };
  bits = λ n b low. sym (or-false (has_at c.args.rows.now n b));
}

pub loop-step-preserved : goal.loop-step-preserved
loop-step-preserved c =
    let net = c.args.net.now in
    let g = c.args.graph.now in
    let i = c.loop-step.step-index in
    let same : c.steps-step-items.result.now ≡ g.steps = c.steps-step-items.ensures.steps in
    let low : i < length g.steps = omega (arith, c.loop-step-test.true, ap length same) in
    record {
      size = same_size c.mark_step.new.rows c.loop-step.rows c.args.rows.now c.mark_step.ensures.size c.loop-step.invariant.size;
      bits = λ n b few.
          let step = get_or g.steps i (0, 0) in
          set_more (has_at c.args.rows.now n b) (has_at c.loop-step.rows n b) (has_at c.mark_step.new.rows n b) (list_any (step_sets net g n b) (take i g.steps)) (step_sets net g n b step)
          (c.loop-step.invariant.bits n b few)
          (c.mark_step.ensures.bits n b few ∙ ap (λ (ts : List (ℕ × ℕ)). has_at c.loop-step.rows n b || step_sets net g n b (get_or ts i (0, 0))) same)
          ∙ ap (λ z. has_at c.args.rows.now n b || z) (sym (list_any_more (step_sets net g n b) g.steps i (0, 0) low));
    }

pub returns-clause-bits : goal.returns-clause-bits
returns-clause-bits c = λ n b few.
    let g = c.args.graph.now in
    let same : c.steps-step-items.result.now ≡ g.steps = c.steps-step-items.ensures.steps in
    c.loop-step.invariant.bits n b few
    ∙ ap (λ (ts : List (ℕ × ℕ)). has_at c.args.rows.now n b || list_any (step_sets c.args.net.now g n b) ts)
    (take_all c.loop-step.step-index g.steps (omega (arith, c.loop-step-test.false, ap length same)))
