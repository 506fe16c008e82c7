use Rattle.std.proofs.Common.{ℕ, ◌++◌, ◌∷◌, [], get_or, sym, ap, ◌∙◌}
use Rattle.std.proofs.lemmas.List.{get_or_default}
use Rattle.list_law.proofs.Changed.{map_so_far}
use Rattle.node_quotient.specs.Alike.{class_in}
use Rattle.node_quotient.proofs.quotients.steps_led.Goals as goal

pub loop-step-preserved : goal.loop-step-preserved
loop-step-preserved c =
    let led : ℕ × ℕ → ℕ × ℕ = λ s. (s.0, class_in c.args.least.now s.1) in
    let steps = c.args.steps.now in
    let i = c.loop-step.step-index in
    let step = get_or steps i (0, 0) in
    c.in_ok-push.ensures.ok ∙ ap (λ l. l ++ led step ∷ []) c.loop-step.invariant
    ∙ sym (map_so_far led steps i step c.loop-step-test.true (get_or_default steps i (0, 0) step c.loop-step-test.true))
