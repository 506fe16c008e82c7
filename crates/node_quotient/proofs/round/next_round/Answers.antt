use Rattle.std.proofs.Common.{◌≡◌, ◌<◌, [], ℕ, length, List, ◌∷◌, ◌++◌, slice_index_or, ap, ◌∙◌, arith}
use Rattle.node_quotient.specs.Alike.{class_in, list_of}
use Rattle.std.proofs.lemmas.List.{get_or_default}
use Rattle.node_quotient.proofs.Stages.{ended}
use Rattle.node_quotient.proofs.Turns.{founders_inside, read, turn_found, turn_founder}
use Rattle.node_quotient.proofs.round.next_round.Goals as goal
use Rattle.node_quotient.proofs.round.next_round.Goals.{in-Some, in-None+in_ok-push-in-None}

got_list : (founders : List (List ℕ)) (class : ℕ) (d : List ℕ) → class < length founders → slice_index_or founders class d ≡ list_of founders class
got_list founders class d lt = get_or_default founders class d [] lt

read_list : (c : goal.After-as_slice) → c.as_slice.result.now ≡ list_of c.loop-node.founders.items (class_in c.args.least.now c.loop-node.node)
read_list c =
    let rows = c.loop-node.invariant.stage.rows in
    let inside = c.requires.classes c.loop-node.node c.loop-node-test.true in
    read c.loop-node.founders.items (class_in c.args.least.now c.loop-node.node) _ _ (omega (arith, rows, inside)) c.as_slice.ensures c.index.ensures

pub first_alike-requires-clause-nodes : goal.first_alike-requires-clause-nodes
first_alike-requires-clause-nodes c =
    founders_inside c.args.lists.now c.args.least.now c.loop-node.node c.loop-node.founders.items c.loop-node.next.items c.loop-node.invariant.stage c.loop-node-test.true
    (class_in c.args.least.now c.loop-node.node) c.as_slice.result.now (read_list c)

pub loop-node-preserved : goal.loop-node-preserved
loop-node-preserved c =
    let rows = c.loop-node.invariant.stage.rows in
    let inside = c.requires.classes c.loop-node.node c.loop-node-test.true in
    let list : c.as_slice.result.now ≡ list_of c.loop-node.founders.items (class_in c.args.least.now c.loop-node.node) =
    read c.loop-node.founders.items (class_in c.args.least.now c.loop-node.node) _ _ (omega (arith, rows, inside)) c.as_slice.ensures c.index.ensures in
    elim c.match-first_alike.branch [
      | in-Some w ↦ record {
        end = omega (arith, c.loop-node-test.true);
        stage = rw (w.founders-is, c.in_ok-push.ensures.items, w.first-is)
            (turn_found c.args.lists.now c.args.least.now c.loop-node.node c.loop-node.founders.items c.loop-node.next.items c.loop-node.invariant.stage c.loop-node-test.true
            w.in-Some.first c.as_slice.result.now c.first_alike.result list c.first_alike.ensures w.in-Some.is);
      }
      | in-None+in_ok-push-in-None w ↦ record {
        end = omega (arith, c.loop-node-test.true);
        stage = rw (w.founders-is, c.in_ok-push.ensures.items, w.first-is)
            (turn_founder c.args.lists.now c.args.least.now c.loop-node.node c.loop-node.founders.items c.loop-node.next.items c.loop-node.invariant.stage c.loop-node-test.true
            inside c.as_slice.result.now w.push.new.self c.first_alike.result list c.first_alike.ensures w.in-None.is
            (w.in_ok-push-in-None.ensures.ok
            ∙ ap (λ (xs : List ℕ). xs ++ c.loop-node.node ∷ []) (w.index_mut.ensures.value
            ∙ got_list c.loop-node.founders.items (class_in c.args.least.now c.loop-node.node) _ (omega (arith, rows, inside)))));
      }
    ]

pub returns : goal.returns
returns c =
    ended c.args.lists.now c.args.least.now c.loop-node.node c.loop-node.founders.items c.loop-node.next.items c.loop-node-test.false
    c.loop-node.invariant.end c.loop-node.invariant.stage
