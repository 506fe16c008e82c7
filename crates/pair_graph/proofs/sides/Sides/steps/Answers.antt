use Rattle.std.proofs.Common.{ap₂}
use Rattle.indexmap.proofs.MapLemmas.{OnOk-map}
use Rattle.pair_graph.specs.Nexts.{AreNexts}
use Rattle.pair_graph.specs.Pairs.{joined, step_pair}
use Rattle.pair_graph.specs.Ways.{both_taken}
use Rattle.pair_graph.proofs.Nexts.{nexts_alike}
use Rattle.pair_graph.proofs.sides.Sides.steps.Goals as goal

pub returns : goal.returns
returns c = λ g h sides.
    let pairs = c.merge.new.pairs.items in
    let both = both_taken c.steps.result.now c.steps-2.result.now in
    let next = step_pair g h c.args.pair.now in
    OnOk-map c.merge.result (AreNexts both pairs) (AreNexts next pairs)
    (nexts_alike both next pairs (λ l. ap₂ (joined l) (c.steps.ensures.taken g l sides.first) (c.steps-2.ensures.taken h l sides.second))) c.merge.ensures
