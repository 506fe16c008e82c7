use Rattle.std.proofs.Common.{◌≡◌, ◌<◌, length, ap, sym, subst, ◌∙◌}
use Rattle.std.specs.Prelude.{IsTrue}
use Rattle.std.specs.List.{AllByRecursion}
use Rattle.net_base.specs.declared.limits.TheConstants.{LOCATIONS}
use Rattle.graph_base.specs.declared.graph.Node.{Node}
use Rattle.graph_base.specs.Graphs.{PlainGraph}
use Rattle.graph_base.specs.Runs.{is_start, place_of}
use Rattle.settled_outcome.specs.Surviving.{chooses_by, left_by}
use Rattle.settled_outcome.proofs.Surviving.{starts_choose_not}
use Rattle.settled_outcome.proofs.outcome.case_routes.Goals as goal

pub settle_graph-requires-clause-starts : goal.settle_graph-requires-clause-starts
settle_graph-requires-clause-starts c = λ n start.
    let net = c.args.net.now in
    let s = c.args.survivors.now in
    let origins = c.args.origins.now in
    let graph = c.args.case.now.graph in
    let same : c.args.left ≡ left_by net s graph = c.requires.left in
    c.choosers-choosers.ensures (place_of c.args.left n)
    ∙ ap (λ (g : PlainGraph). chooses_by net s origins (place_of g n)) same
    ∙ starts_choose_not net s graph origins c.requires.starts n (subst (λ (g : PlainGraph). IsTrue (is_start g n)) same start)

pub settle_graph-requires-clause-places : goal.settle_graph-requires-clause-places
settle_graph-requires-clause-places c = subst (λ (g : PlainGraph). AllByRecursion (λ (n : Node). n.loc < LOCATIONS) g.nodes) (sym c.requires.left) c.graph.ensures.rules.places

pub settle_graph-requires-clause-numbers : goal.settle_graph-requires-clause-numbers
settle_graph-requires-clause-numbers c = ap length c.prefs.ensures ∙ c.graph.ensures.rules.sized ∙ ap (λ (g : PlainGraph). length g.nodes) (sym c.requires.left)
