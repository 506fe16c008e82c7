use Rattle.std.proofs.Common.{rules, ◌≡◌, ◌<◌, Some, length, set, sym, ap, ◌∙◌, subst, refl, arith}
use Rattle.std.proofs.lemmas.Bool.{and_left}
use Rattle.reach_prune.specs.Searches.{is_marked}
use Rattle.graph_base.specs.Runs.{place_of}
use Rattle.settled_graph.specs.Best.{AreBest}
use Rattle.settled_graph.proofs.Tables.{best_first, best_kept, best_passed, best_taken, entry_read, place_low}
use Rattle.settled_graph.proofs.best.best_nodes.Goals as goal
use Rattle.settled_graph.proofs.best.best_nodes.Goals.{then-marks-node+then-comes_over, else-marks-node, else-marks-node-via-then-marks-node+else-comes_over, else-marks-node-via-else-marks-node}

pub comes_over-requires-clause-best : goal.comes_over-requires-clause-best
comes_over-requires-clause-best c = λ b e.
    let g = c.args.graph.now in
    let are = c.loop-node.invariant in
    let node : c.loop-node.node < length g.nodes = omega (arith, c.loop-node-test.true, ap length c.nodes.ensures.nodes) in
    let low = place_low g c.loop-node.node c.requires.places node in
    let read = entry_read c.loop-node.best.items c.number-at.result c.index.result.now (omega (arith, c.number-at.ensures, c.location.ensures, low, are.size)) c.index.ensures in
    let old = are.here c.number-at.result b (sym read ∙ e) in
    omega (arith, old.0, c.requires.numbers)

pub loop-node-init : goal.loop-node-init
loop-node-init c =
    best_first c.args.graph.now c.args.numbers.now (is_marked c.args.marks.now) 768 c.in_ok-best.best.items refl (c.in_ok-best.ensures.items_if_clones_equal (λ y h. search rules))

pub index-requires : goal.index-requires
index-requires c =
    let g = c.args.graph.now in
    let node : c.loop-node.node < length g.nodes = omega (arith, c.loop-node-test.true, ap length c.nodes.ensures.nodes) in
    let low = place_low g c.loop-node.node c.requires.places node in
    omega (arith, c.number-at.ensures, c.location.ensures, low, c.loop-node.invariant.size, c.loop-node.best.ok.0)

pub index_mut-requires : goal.index_mut-requires
index_mut-requires c =
    let g = c.args.graph.now in
    let node : c.loop-node.node < length g.nodes = omega (arith, c.loop-node-test.true, ap length c.nodes.ensures.nodes) in
    let low = place_low g c.loop-node.node c.requires.places node in
    omega (arith, c.number-at.ensures, c.location.ensures, low, c.loop-node.invariant.size, c.loop-node.best.ok.0)

pub loop-node-preserved : goal.loop-node-preserved
loop-node-preserved c =
    let g = c.args.graph.now in
    let numbers = c.args.numbers.now in
    let marked = is_marked c.args.marks.now in
    let n = c.loop-node.node in
    let best = c.loop-node.best.items in
    let node : n < length g.nodes = omega (arith, c.loop-node-test.true, ap length c.nodes.ensures.nodes) in
    let at : c.number-at.result ≡ place_of g n = c.number-at.ensures ∙ c.location.ensures in
    elim c.if-marks-node.branch [
      | then-marks-node+then-comes_over w ↦ (
          let taken : c.if-marks-node.best.items ≡ set best c.number-at.result (Some n) = rw w.best-is refl in
          best_taken g numbers marked n best c.number-at.result w.index.result.now c.if-marks-node.best.items c.requires.places node at
          w.index.ensures taken w.if-marks-node.true (sym w.comes_over.ensures ∙ w.if-comes_over.true) c.loop-node.invariant)
      | else-marks-node w ↦ rw w.best-is (elim w.else-marks-node.branch [
        | else-marks-node-via-then-marks-node+else-comes_over v ↦
            best_passed g numbers marked n best c.number-at.result v.index.result.now c.requires.places node at v.index.ensures (sym v.comes_over.ensures ∙ v.if-comes_over.false) c.loop-node.invariant
        | else-marks-node-via-else-marks-node v ↦ best_kept g numbers marked n best (and_left (marked n) _ v.if-marks-node.false) c.loop-node.invariant
      ])
    ]

pub returns : goal.returns
returns c =
    let all : c.loop-node.node ≡ length c.args.graph.now.nodes = omega (arith, c.loop-node-test.false, c.loop-node.auto.node-end, ap length c.nodes.ensures.nodes) in
    subst (λ k. AreBest c.args.graph.now c.args.numbers.now (is_marked c.args.marks.now) k c.loop-node.best.items) all c.loop-node.invariant
