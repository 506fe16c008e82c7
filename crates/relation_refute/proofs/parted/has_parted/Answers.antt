use Rattle.std.proofs.Common.{not, get_or, arith, sym, ap, ◌∙◌}
use Rattle.std.proofs.lemmas.Bool.{eq-eqb, not-true}
use Rattle.std.proofs.lemmas.List.{take_all}
use Rattle.graph_base.specs.Runs.{place_of}
use Rattle.reach_prune.specs.Searches.{is_among}
use Rattle.relation_refute.specs.Cells.{are_parted}
use Rattle.state_simulation.proofs.Masking.{each_more}
use Rattle.relation_refute.proofs.Celling.{pair_at}
use Rattle.relation_refute.proofs.parted.has_parted.Goals as goal

pub are_parted-requires-clause-pair : goal.are_parted-requires-clause-pair
are_parted-requires-clause-pair c =
    let nodes = c.peers-m-items.result.now in
    let i = c.loop-m.m-index in
    let lm = c.peers-m-items.ensures.within i 0 c.loop-m-test.true in
    pair_at c.args.maps.now.graph.now nodes i c.args.n c.loop-m-test.true c.requires.n lm c.peers-m-items.ensures.members

pub returns-then-are_parted-clause-some : goal.returns-then-are_parted-clause-some
returns-then-are_parted-clause-some c = λ h.
    let nodes = c.peers-m-items.result.now in
    let i = c.loop-m.m-index in
    let lm = c.peers-m-items.ensures.within i 0 c.loop-m-test.true in
    let pair = pair_at c.args.maps.now.graph.now nodes i c.args.n c.loop-m-test.true c.requires.n lm c.peers-m-items.ensures.members in
    (get_or nodes i 0, pair, sym c.are_parted.ensures ∙ c.if-are_parted.true)

pub loop-m-preserved : goal.loop-m-preserved
loop-m-preserved c =
    let nodes = c.peers-m-items.result.now in
    each_more (λ m. not (are_parted c.args.cells.now m c.args.n)) nodes c.loop-m.m-index c.loop-m-test.true c.loop-m.invariant (ap not (sym c.are_parted.ensures ∙ c.if-are_parted.false))

pub returns-clause-none : goal.returns-clause-none
returns-clause-none c = λ e m pair.
    let g = c.args.maps.now.graph.now in
    let nodes = c.peers-m-items.result.now in
    not-true _ (c.loop-m.invariant m (ap (λ l. is_among l m) (take_all c.loop-m.m-index nodes (omega (arith, c.loop-m-test.false)))
    ∙ c.peers-m-items.ensures.members m pair.left ∙ eq-eqb (place_of g m) (place_of g c.args.n) pair.place))
