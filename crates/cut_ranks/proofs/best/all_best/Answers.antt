use Rattle.std.proofs.Common.{rules, ◌≡◌, true, length, replicate, ap, ◌∙◌}
use Rattle.std.proofs.lemmas.Result.{IfOk-weaker}
use Rattle.graph_base.specs.Graphs.{PlainGraph}
use Rattle.reach_prune.specs.Searches.{is_marked}
use Rattle.cut_ranks.specs.Tops.{AreBest}
use Rattle.cut_ranks.proofs.Choosing.{all_marked}
use Rattle.cut_ranks.proofs.best.all_best.Goals as goal

pub returns : goal.returns
returns c =
    let e = c.args.case.now in
    let nodes = ap length c.nodes.ensures.nodes ∙ ap (λ (g : PlainGraph). length g.nodes) c.graph.ensures.graph in
    let all : c.deref.result.now ≡ replicate (length e.graph.nodes) true =
    c.deref.ensures.value ∙ c.in_ok-marks.ensures.items_if_clones_equal (λ y h. search rules) ∙ ap (λ n. replicate n true) nodes in
    IfOk-weaker c.best_marked.result (λ tops. AreBest e (is_marked c.deref.result.now) c.args.routers (length e.graph.nodes) tops.items)
    (λ tops. AreBest e (λ n. true) c.args.routers (length e.graph.nodes) tops.items)
    (λ tops are. all_marked e c.deref.result.now c.args.routers (length e.graph.nodes) tops.items all are) c.best_marked.ensures
