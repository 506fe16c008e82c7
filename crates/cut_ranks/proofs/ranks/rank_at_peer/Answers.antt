use Rattle.std.proofs.Common.{◌≡◌, ℕ, List, false, get_or, sym, ◌∙◌, subst, arith}
use Rattle.std.specs.Prelude.{◌==◌}
use Rattle.std.specs.List.{list_any}
use Rattle.std.proofs.lemmas.Bool.{eqb-true}
use Rattle.std.proofs.lemmas.List.{take_all}
use Rattle.graph_base.specs.Runs.{place_of}
use Rattle.reach_prune.proofs.Visiting.{listed_below}
use Rattle.cut_ranks.proofs.Following.{among_at, rank_nowhere, rank_there}
use Rattle.cut_ranks.proofs.ranks.rank_at_peer.Goals as goal

pub location-requires : goal.location-requires
location-requires c =
    let below = listed_below c.args.lists.now c.args.node c.nodes_from-next-items.result.now c.loop-next.next-index 0 c.requires.lists.within c.nodes_from-next-items.ensures c.loop-next-test.true in
    omega (arith, below, c.requires.lists.size)

pub rank-requires : goal.rank-requires
rank-requires c =
    let below = listed_below c.args.lists.now c.args.node c.nodes_from-next-items.result.now c.loop-next.next-index 0 c.requires.lists.within c.nodes_from-next-items.ensures c.loop-next-test.true in
    omega (arith, below, c.requires.lists.size)

pub returns-then-eq : goal.returns-then-eq
returns-then-eq c =
    let g = c.args.graph.now in
    let lists = c.args.lists.now in
    let nodes = c.nodes_from-next-items.result.now in
    let i = c.loop-next.next-index in
    let next = get_or nodes i 0 in
    let listed = c.nodes_from-next-items.ensures in
    let here : place_of g next ≡ c.args.peer = sym c.location.ensures ∙ eqb-true c.location.result c.args.peer (sym c.eq.ensures ∙ c.if-eq.true) in
    c.rank.ensures
    ∙ sym (rank_there g lists c.requires.lists c.args.node c.args.peer nodes listed next
    (among_at g lists c.requires.lists c.args.node c.args.peer nodes listed i c.loop-next-test.true) here)

pub returns : goal.returns
returns c =
    let g = c.args.graph.now in
    let nodes = c.nodes_from-next-items.result.now in
    let whole = take_all c.loop-next.next-index nodes c.loop-next-test.false in
    let none : list_any (λ n. place_of g n == c.args.peer) nodes ≡ false =
    subst (λ (xs : List ℕ). list_any (λ n. place_of g n == c.args.peer) xs ≡ false) whole c.loop-next.invariant in
    sym (rank_nowhere g c.args.lists.now c.requires.lists c.args.node c.args.peer nodes c.nodes_from-next-items.ensures none)
