use Rattle.std.proofs.Common.{◌∙◌, ℕ, get_or}
use Rattle.std.proofs.lemmas.List.{length-set}
use Rattle.graph_base.proofs.WalkLemmas.{least_first, least_next}
use Rattle.graph_base.proofs.follow.firsts_before.Goals as goal

pub loop-from-preserved : goal.loop-from-preserved
loop-from-preserved c =
    let steps = c.steps-from-items.result.now in
    let s : ℕ × ℕ = get_or steps c.loop-from.from-index (0, 0) in
    let are = c.loop-from.invariant in
    let firsts = c.loop-from.firsts.items in
    let here = c.index_mut-first.result.now in
    record {
      size = length-set firsts s.1 c.min.result ∙ are.size;
      least = least_next c.args.graph.now steps firsts c.loop-from.from-index here c.min.result c.steps-from-items.ensures.steps c.loop-from-test.true are.size
          (c.index_mut-first.ensures.value, c.min.ensures) are.least;
    }

pub returns-clause-first : goal.returns-clause-first
returns-clause-first c = λ m n h.
    least_first c.args.graph.now c.steps-from-items.result.now c.loop-from.firsts.items c.loop-from.from-index m n c.steps-from-items.ensures.rules c.steps-from-items.ensures.steps
    c.loop-from-test.false c.loop-from.invariant.least h
