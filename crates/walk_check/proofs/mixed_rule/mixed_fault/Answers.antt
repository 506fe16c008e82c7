use Rattle.std.proofs.Common.{◌≡◌, true, false, length}
use Rattle.std.specs.Prelude.{◌&&◌, is_none, is_some}
use Rattle.net_base.specs.Sets.{holds}
use Rattle.graph_base.specs.Runs.{place_of, rank_at}
use Rattle.evidence_law.specs.Passes.{IsClaimed}
use Rattle.graph_law.proofs.Claimed.{claimed_where_ranked}
use Rattle.walk_check.proofs.RankWalks.{IsFirstOrNone-same, none_mixed}
use Rattle.walk_check.proofs.mixed_rule.mixed_fault.Goals as goal

pub returns : goal.returns
returns c = λ s case faithful.
    let net = c.args.net.now in
    let g = c.args.graph.now in
    IsFirstOrNone-same (λ n. (holds c.ranked_routers-claimed.result (place_of g n) && is_none (rank_at g n)) ≡ false)
    (λ n. IsClaimed net s case (place_of g n) → is_some (rank_at g n) ≡ true) (length g.nodes) c.first_mixed.result
    (λ n within. none_mixed (holds c.ranked_routers-claimed.result (place_of g n)) (rank_at g n) (IsClaimed net s case (place_of g n))
    (λ h. (claimed_where_ranked net s case g c.first_mixed.ensures.rules faithful (place_of g n)).0 ((c.ranked_routers-claimed.ensures (place_of g n)).0 h))
    (λ h. (c.ranked_routers-claimed.ensures (place_of g n)).1 ((claimed_where_ranked net s case g c.first_mixed.ensures.rules faithful (place_of g n)).1 h)))
    c.first_mixed.ensures.first
