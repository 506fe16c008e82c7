use Rattle.std.proofs.Common.{◌≡◌, ◌+◌, ◌-◌, ◌∙◌, Some, ap, sym, subst, arith, length, take}
use Rattle.std.proofs.lemmas.Bool.{false≢true}
use Rattle.graph_base.specs.Runs.{rank_at}
use Rattle.walk_check.specs.PairRanks.{IsLeastUnlike, lesser_of}
use Rattle.walk_check.proofs.LeastPair.{least_next_same, least_next_unlike}
use Rattle.walk_check.proofs.rank_rule.least_unlike.Goals as goal
use Rattle.walk_check.proofs.rank_rule.least_unlike.Goals.{then-not-is_same, else-not-is_same}

pub loop-place-preserved : goal.loop-place-preserved
loop-place-preserved c =
    let t = c.args.live.now in
    let g = c.args.graph.now in
    let keys = c.args.pairs.now.keys in
    let p = c.pair_at-paired.result in
    let size = ap length c.nodes.ensures.nodes in
    let node : c.saturating_sub-node.result ≡ p.1 - length t.nodes = omega (arith, c.saturating_sub-node.ensures, size) in
    let other = c.rank_of-in-loop-place.ensures ∙ ap (rank_at g) node in
    elim c.if-not-is_same.branch [
      | then-not-is_same w ↦
          subst (IsLeastUnlike t g (take (c.loop-place.place + 1) keys)) (sym (w.least-is ∙ ap Some (w.lesser.ensures ∙ ap (lesser_of c.loop-place.least) node)))
          (least_next_unlike t g keys c.loop-place.place p c.loop-place.least c.pair_at-paired.ensures c.loop-place.invariant
          (λ same. false≢true (sym w.if-not-is_same.true ∙ c.is_same.ensures.1 (c.rank_of.ensures ∙ same ∙ sym other))))
      | else-not-is_same w ↦
          subst (IsLeastUnlike t g (take (c.loop-place.place + 1) keys)) (sym w.least-is)
          (least_next_same t g keys c.loop-place.place p c.loop-place.least c.pair_at-paired.ensures c.loop-place.invariant
          (sym c.rank_of.ensures ∙ c.is_same.ensures.0 w.if-not-is_same.false ∙ other))
    ]
