use Rattle.std.proofs.Common.{rules, ◌≡◌, ◌<◌, None, length, sym, ap, ◌∙◌, subst, refl, arith}
use Rattle.std.proofs.lemmas.Bool.{both_ways}
use Rattle.std.proofs.lemmas.List.{get_or_read}
use Rattle.reach_prune.specs.Searches.{is_marked}
use Rattle.graph_base.specs.Graphs.{PlainGraph}
use Rattle.graph_base.specs.Runs.{place_of}
use Rattle.cut_ranks.specs.Tops.{AreBest, entry_at, is_better}
use Rattle.cut_ranks.proofs.Choosing.{best_first, best_kept, best_taken}
use Rattle.cut_ranks.proofs.best.best_marked.Goals as goal
use Rattle.cut_ranks.proofs.best.best_marked.Goals.{then-at-routers+then-marks-node+then-is_over, else-at-routers}
use Rattle.cut_ranks.proofs.best.best_marked.Goals.{else-at-routers-via-then-at-routers+then-marks-node+else-is_over}
use Rattle.cut_ranks.proofs.best.best_marked.Goals.{else-at-routers-via-then-at-routers+else-marks-node, else-at-routers-via-else-at-routers}

pub loop-node-init : goal.loop-node-init
loop-node-init c = best_first c.args.case.now (is_marked c.args.marks.now) c.args.routers c.in_ok-tops.tops.items (c.in_ok-tops.ensures.items_if_clones_equal (λ y h. search rules))

pub loop-node-preserved : goal.loop-node-preserved
loop-node-preserved c =
    let e = c.args.case.now in
    let marked = is_marked c.args.marks.now in
    let n = c.loop-node.node in
    let best = c.loop-node.tops.items in
    let at : c.number-at.result ≡ place_of e.graph n = c.number-at.ensures ∙ c.location.ensures ∙ ap (λ g. place_of g n) c.graph-graph.ensures.graph in
    let size = c.loop-node.invariant.size in
    elim c.if-at-routers.branch [
      | then-at-routers+then-marks-node+then-is_over w ↦ (
          let low : c.number-at.result < c.args.routers = omega (arith, w.if-at-routers.true) in
          let read = get_or_read best c.number-at.result w.index.result.now (omega (arith, low, size)) w.index.ensures None in
          best_taken e marked c.args.routers n best c.number-at.result c.if-at-routers.tops.items at low (rw w.tops-is refl) w.if-marks-node.true
          (ap (is_better e n) (sym read) ∙ (sym w.is_over.ensures ∙ w.if-is_over.true)) c.loop-node.invariant)
      | else-at-routers w ↦ rw w.tops-is (elim w.else-at-routers.branch [
        | else-at-routers-via-then-at-routers+then-marks-node+else-is_over v ↦ (
            let low : c.number-at.result < c.args.routers = omega (arith, v.if-at-routers.true) in
            let read = get_or_read best c.number-at.result v.index.result.now (omega (arith, low, size)) v.index.ensures None in
            best_kept e marked c.args.routers n best (λ on near. ap (λ l. is_better e n (entry_at best l)) (sym at) ∙ ap (is_better e n) (sym read)
            ∙ (sym v.is_over.ensures ∙ v.if-is_over.false)) c.loop-node.invariant)
        | else-at-routers-via-then-at-routers+else-marks-node v ↦ best_kept e marked c.args.routers n best (λ on near. absurd (both_ways _ v.if-marks-node.false on)) c.loop-node.invariant
        | else-at-routers-via-else-at-routers v ↦ best_kept e marked c.args.routers n best (λ on near. absurd (omega (arith, v.if-at-routers.false, near, at))) c.loop-node.invariant
      ])
    ]

pub returns : goal.returns
returns c =
    let nodes = ap length c.nodes.ensures.nodes ∙ ap (λ (g : PlainGraph). length g.nodes) c.graph-graph.ensures.graph in
    let all : c.loop-node.node ≡ length c.args.case.now.graph.nodes = omega (arith, c.loop-node-test.false, c.loop-node.auto.node-end, nodes) in
    subst (λ k. AreBest c.args.case.now (is_marked c.args.marks.now) c.args.routers k c.loop-node.tops.items) all c.loop-node.invariant
