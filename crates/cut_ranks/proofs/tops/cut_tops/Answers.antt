use Rattle.std.proofs.Common.{◌≡◌, ◌↔◌, ◌<◌, ℕ, Bool, List, true, length, ap, sym, subst}
use Rattle.graph_base.specs.declared.graph.Node.{Node}
use Rattle.impact_law.specs.Cuts.{with_cut}
use Rattle.outcome_base.specs.Outcomes.{no_failures}
use Rattle.reach_prune.specs.Searches.{is_marked}
use Rattle.cut_ranks.specs.Left.{IsLeft}
use Rattle.cut_ranks.specs.Tops.{AreBest}
use Rattle.cut_ranks.proofs.Besides.{cut_besides}
use Rattle.cut_ranks.proofs.Reaching.{are_tops, best_are_nodes}
use Rattle.cut_ranks.proofs.tops.cut_tops.Goals as goal

pub returns-clause-nodes : goal.returns-clause-nodes
returns-clause-nodes c =
    let e = c.args.paths.now.case.now in
    let nodes = best_are_nodes e (is_marked c.deref-2.result.now) (length c.routers.result.now) c.in_ok-tops.tops.items c.in_ok-tops.ensures in
    λ r n is. subst (λ (ns : List Node). n < length ns) (sym c.requires.nodes) (nodes r n is)

pub returns-clause-tops : goal.returns-clause-tops
returns-clause-tops c = λ s f on opened.
    let e = c.args.paths.now.case.now in
    let left = c.args.paths.now.left in
    let cut = c.args.cut.now in
    let tops = c.in_ok-tops.tops.items in
    let marks = c.deref-2.result.now in
    let exact : (n : ℕ) → n < length left.nodes → (is_marked marks n ≡ true) ↔ IsLeft left (with_cut cut no_failures) n =
    λ n low. subst (λ (ms : List Bool). (is_marked ms n ≡ true) ↔ IsLeft left (with_cut cut no_failures) n) (sym c.deref-2.ensures.value) (c.in_ok-marks.ensures.marks n low) in
    are_tops c.args.net.now s e f (with_cut cut no_failures) (with_cut cut f) left on (cut_besides cut f) opened (is_marked marks) tops exact
    (subst (λ (n : ℕ). AreBest e (is_marked marks) n (length e.graph.nodes) tops) (ap length c.routers.ensures.routers) c.in_ok-tops.ensures)
