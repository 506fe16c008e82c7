use Rattle.std.proofs.Common.{ap₂}
use Rattle.indexmap.proofs.MapLemmas.{OnOk-map}
use Rattle.pair_graph.specs.Nexts.{AreNexts}
use Rattle.pair_graph.specs.Pairs.{joined, start_pair}
use Rattle.pair_graph.specs.Ways.{both_taken}
use Rattle.pair_graph.proofs.Nexts.{nexts_alike}
use Rattle.pair_graph.proofs.sides.Sides.starts.Goals as goal

pub returns : goal.returns
returns c = λ g h sides.
    let pairs = c.merge.new.pairs.items in
    let both = both_taken c.starts.result.now c.starts-2.result.now in
    OnOk-map c.merge.result (AreNexts both pairs) (AreNexts (start_pair g h) pairs)
    (nexts_alike both (start_pair g h) pairs (λ l. ap₂ (joined l) (c.starts.ensures.taken g l sides.first) (c.starts-2.ensures.taken h l sides.second))) c.merge.ensures
