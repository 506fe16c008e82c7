use Rattle.std.proofs.Common.{◌≡◌, ◌↔◌, ◌<◌, ℕ, Bool, List, true, length, ap, sym, subst}
use Rattle.graph_base.specs.declared.graph.Node.{Node}
use Rattle.outcome_base.specs.Outcomes.{no_failures}
use Rattle.reach_prune.specs.Searches.{is_marked}
use Rattle.cut_ranks.specs.Left.{IsLeft}
use Rattle.cut_ranks.specs.Tops.{AreBest}
use Rattle.cut_ranks.proofs.Besides.{none_besides}
use Rattle.reach_prune.specs.Ways.{LeadsFrom}
use Rattle.reach_prune.specs.declared.steps.Way.TheVariants.{Forward}
use Rattle.cut_ranks.proofs.Reaching.{all_open, are_tops, best_are_nodes}
use Rattle.cut_ranks.proofs.tops.tops_left.Goals as goal

pub returns-clause-nodes : goal.returns-clause-nodes
returns-clause-nodes c =
    let e = c.args.paths.now.case.now in
    let nodes = best_are_nodes e (is_marked c.deref.result.now) (length c.routers.result.now) c.in_ok-tops.tops.items c.in_ok-tops.ensures in
    λ r n is. subst (λ (ns : List Node). n < length ns) (sym c.requires.nodes) (nodes r n is)

pub returns-clause-tops : goal.returns-clause-tops
returns-clause-tops c = λ s f on opened.
    let e = c.args.paths.now.case.now in
    let left = c.args.paths.now.left in
    let tops = c.in_ok-tops.tops.items in
    let marks = c.deref.result.now in
    let exact : (n : ℕ) → n < length left.nodes → (is_marked marks n ≡ true) ↔ IsLeft left no_failures n =
    λ n low.
    let read = subst (λ (xs : List ℕ). (is_marked c.in_ok-marks.marks.items n ≡ true) ↔ LeadsFrom Forward left xs n) c.starts.ensures.starts (c.in_ok-marks.ensures.marks n low) in
    let both = subst (λ (ms : List Bool). (is_marked ms n ≡ true) ↔ LeadsFrom Forward left left.starts n) (sym c.deref.ensures.value) read in
    let open_ways = all_open left n in
    (λ h. open_ways.0 (both.0 h), λ h. both.1 (open_ways.1 h)) in
    are_tops c.args.net.now s e f no_failures f left on (none_besides f) opened (is_marked marks) tops exact
    (subst (λ (n : ℕ). AreBest e (is_marked marks) n (length e.graph.nodes) tops) (ap length c.routers.ensures.routers) c.in_ok-tops.ensures)
