use Rattle.std.proofs.Common.{◌≡◌, length, ap, ◌∙◌, arith}
use Rattle.reach_prune.proofs.Trails.{reached_along}
use Rattle.reach_prune.proofs.marking.marked.Goals as goal

pub returns-clause-marks : goal.returns-clause-marks
returns-clause-marks c = λ n lt.
    let g = c.args.graph.now in
    let size : length c.deref.result.now ≡ length g.nodes = ap length c.deref.ensures.value ∙ c.in_ok-lists.ensures.size in
    let along = reached_along c.args.way g c.in_ok-lists.lists.items c.args.first.now n c.in_ok-lists.ensures.steps in
    let marks = rw c.deref.ensures.value at (c.in_ok-marks.ensures.marks n (omega (arith, size))) in
    (λ m. along.0 (marks.0 m), λ l. marks.1 (along.1 l))
