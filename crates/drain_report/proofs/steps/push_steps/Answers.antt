use Rattle.std.proofs.Common.{◌+◌, ◌++◌, ◌∷◌, [], ℕ, List, arith, ap, append_assoc, sym, take, ◌∙◌}
use Rattle.std.proofs.lemmas.List.{get_or_read}
use Rattle.drain_report.specs.Steps.{steps_of}
use Rattle.drain_report.proofs.Walking.{steps_next}
use Rattle.drain_report.proofs.steps.push_steps.Goals as goal

pub loop-place-preserved : goal.loop-place-preserved
loop-place-preserved c =
    let path = c.args.path.now in
    let place = c.loop-place.place in
    let x = c.index-path-place.result in
    let y = c.index-path-place-in-loop-place.result in
    let is_x = get_or_read path _ x (omega arith) c.index-path-place.is 0 in
    let is_y = get_or_read path place y (omega arith) c.index-path-place-in-loop-place.is 0 in
    let next = steps_next path place x y (omega arith) (omega arith) is_x is_y in
    let before = steps_of (take place path) in
    c.in_ok-push.ensures.ok
    ∙ ap (λ (steps : List (ℕ × ℕ)). steps ++ (x, y) ∷ []) c.loop-place.invariant
    ∙ append_assoc c.args.steps.now before ((x, y) ∷ [])
    ∙ ap (λ (steps : List (ℕ × ℕ)). c.args.steps.now ++ steps) (sym next)
