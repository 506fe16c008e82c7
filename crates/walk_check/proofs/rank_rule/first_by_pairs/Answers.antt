use Rattle.std.proofs.Common.{◌≡◌, ◌+◌, ap, arith, length}
use Rattle.walk_check.specs.WaysOf.{both_sizes}
use Rattle.walk_check.proofs.Followed.{both_are}
use Rattle.walk_check.proofs.LeastPair.{first_of_pairs, followed_also}
use Rattle.walk_check.proofs.rank_rule.first_by_pairs.Goals as goal

pub pairs_met-requires-clause-alike : goal.pairs_met-requires-clause-alike
pairs_met-requires-clause-alike c =
    let t = c.args.live.now in
    let g = c.args.graph.now in
    let are = both_are t g c.nodes-size.ensures.rules c.nodes-other.ensures.rules c.in_ok-ways.ways.items c.in_ok-ways.ensures.order c.in_ok-ways.ensures.same in
    let root : length c.nodes-size.result.now + length c.nodes-other.result.now ≡ both_sizes t g = omega (arith, ap length c.nodes-size.ensures.nodes, ap length c.nodes-other.ensures.nodes) in
    followed_also t g c.nodes-size.ensures.rules c.nodes-other.ensures.rules c.requires.live c.requires.graph c.in_ok-ways.ways.items are.0 are.1
    c.deref.result.now (length c.nodes-size.result.now + length c.nodes-other.result.now)
    (length c.nodes-size.result.now + length c.nodes-other.result.now + 1) c.deref.ensures.value root (ap (λ n. n + 1) root)
    c.requires.alike

pub returns-clause-first : goal.returns-clause-first
returns-clause-first c =
    let t = c.args.live.now in
    let g = c.args.graph.now in
    let are = both_are t g c.nodes-size.ensures.rules c.nodes-other.ensures.rules c.in_ok-ways.ways.items c.in_ok-ways.ensures.order c.in_ok-ways.ensures.same in
    let root : length c.nodes-size.result.now + length c.nodes-other.result.now ≡ both_sizes t g = omega (arith, ap length c.nodes-size.ensures.nodes, ap length c.nodes-other.ensures.nodes) in
    first_of_pairs t g c.nodes-size.ensures.rules c.nodes-other.ensures.rules c.requires.live c.requires.graph c.in_ok-ways.ways.items are.0 are.1
    c.deref.result.now (length c.nodes-size.result.now + length c.nodes-other.result.now)
    (length c.nodes-size.result.now + length c.nodes-other.result.now + 1) c.in_ok-pairs.pairs.keys c.least_unlike.result
    c.deref.ensures.value root (ap (λ n. n + 1) root) c.in_ok-pairs.ensures c.least_unlike.ensures
