use Rattle.std.proofs.Common.{ℕ, true, length, ap, subst}
use Rattle.cut_ranks.specs.Tops.{AreBest}
use Rattle.cut_ranks.proofs.Reaching.{base_are_tops, best_are_nodes}
use Rattle.cut_ranks.proofs.tops.base_tops.Goals as goal

pub returns-clause-nodes : goal.returns-clause-nodes
returns-clause-nodes c = best_are_nodes c.args.case.now (λ n. true) (length c.routers.result.now) c.in_ok-tops.tops.items c.in_ok-tops.ensures

pub returns-clause-tops : goal.returns-clause-tops
returns-clause-tops c = λ s on.
    let e = c.args.case.now in
    let tops = c.in_ok-tops.tops.items in
    base_are_tops c.args.net.now s e tops on (subst (λ (n : ℕ). AreBest e (λ k. true) n (length e.graph.nodes) tops) (ap length c.routers.ensures.routers) c.in_ok-tops.ensures)
