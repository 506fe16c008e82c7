use Rattle.std.proofs.Common.{ℕ, ◌≤◌, List, arith, length, subst, take_all}
use Rattle.std.proofs.lemmas.List.Sums.{count_by-le-length}
use Rattle.policy_base.specs.Walks.{is_loop_free}
use Rattle.compare_base.specs.declared.rows.Place.{Place}
use Rattle.pair_changes.proofs.OneMore.{item_read}
use Rattle.place_rows.specs.Rows.{rows_of}
use Rattle.pair_changes.specs.Changes.{IsExample, paths}
use Rattle.pair_changes.specs.Walks.{AreWalks}
use Rattle.pair_changes.proofs.WalkLists.{walks_exist}
use Rattle.pair_changes.proofs.Examples.{example_enough, example_first, example_next}
use Rattle.pair_changes.proofs.walks.example.Goals as goal

pub walks_at-requires-clause-nodes : goal.walks_at-requires-clause-nodes
walks_at-requires-clause-nodes c = c.requires.nodes c.index-places-0.result

pub walks_at-requires-in-loop-index-clause-nodes : goal.walks_at-requires-in-loop-index-clause-nodes
walks_at-requires-in-loop-index-clause-nodes c = c.requires.nodes c.index-places-index.result

pub walks_at-requires-in-loop-index-clause-rows : goal.walks_at-requires-in-loop-index-clause-rows
walks_at-requires-in-loop-index-clause-rows c = λ row.
    c.requires.rows c.index-places-index.result row (item_read c.args.places.now c.loop-index.index c.index-places-index.result c.loop-index-test.true c.index-places-index.is)

pub loop-index-preserved : goal.loop-index-preserved
loop-index-preserved c =
    example_next (λ place. AreWalks c.args.both.now.graph (rows_of c.args.table.now place) place.peer c.args.rows.now) c.args.places.now c.loop-index.index c.index-places-index.result
    c.loop-index.walks c.in_ok-others.others c.more_paths-walks.result c.loop-index-test.true c.index-places-index.is c.loop-index.invariant c.in_ok-others.ensures c.more_paths-walks.ensures

pub returns-then-all_paths : goal.returns-then-all_paths
returns-then-all_paths c =
    let g = c.args.both.now.graph in
    let firsts = rows_of c.args.table.now in
    let rows = c.args.rows.now in
    let walks = c.loop-index.walks in
    let few : length rows ≤ paths walks = subst (λ (ws : List (List ℕ)). length rows ≤ paths ws) c.as_slice.ensures (c.all_paths.ensures c.if-all_paths.true) in
    example_enough (λ place. AreWalks g (firsts place) place.peer rows) c.args.places.now c.loop-index.index walks (omega (arith, c.loop-index-test.true)) c.loop-index.invariant
    (λ place at.
    let theirs = walks_exist g (firsts place) place.peer c.requires.entered rows (c.requires.nodes place) (λ row. c.requires.rows place row at) in
    (theirs.0, theirs.1, omega (arith, few, theirs.1.count, count_by-le-length is_loop_free theirs.0)))

pub loop-index-init : goal.loop-index-init
loop-index-init c =
    example_first (λ place. AreWalks c.args.both.now.graph (rows_of c.args.table.now place) place.peer c.args.rows.now) c.args.places.now c.index-places-0.result c.in_ok-walks.walks
    c.requires.some c.index-places-0.is c.in_ok-walks.ensures

pub returns : goal.returns
returns c =
    subst (λ (ps : List Place). IsExample (λ place. AreWalks c.args.both.now.graph (rows_of c.args.table.now place) place.peer c.args.rows.now) ps c.loop-index.walks)
    (take_all c.loop-index.index c.args.places.now (omega (arith, c.loop-index-test.false))) c.loop-index.invariant
