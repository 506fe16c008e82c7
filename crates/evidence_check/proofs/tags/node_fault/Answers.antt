use Rattle.std.proofs.Common.{◌<◌, ◌≤◌, length, sym, ◌∙◌, arith}
use Rattle.evidence_check.proofs.SeenTags.{case_seen, first_at, node_fails, node_next}
use Rattle.evidence_check.proofs.tags.node_fault.Goals as goal

pub returns-then-not-branch : goal.returns-then-not-branch
returns-then-not-branch c = λ cs k is are.
    let net = c.args.net.now in
    let case = c.args.case.now in
    let n = c.loop-node.node in
    let seen = c.loop-node.seen.keys in
    let now = c.loop-node.invariant cs k is are in
    let inside : n < length case.graph.nodes = omega (arith, c.loop-node-test.true, c.node_count-node-end.ensures) in
    first_at net cs k n seen now (node_fails net cs k n case is seen now inside c.requires (sym c.in_ok-is_kept.ensures.kept ∙ c.if-not-branch.true))

pub loop-node-preserved : goal.loop-node-preserved
loop-node-preserved c = λ cs k is are.
    let net = c.args.net.now in
    let case = c.args.case.now in
    let n = c.loop-node.node in
    let seen = c.loop-node.seen.keys in
    let inside : n < length case.graph.nodes = omega (arith, c.loop-node-test.true, c.node_count-node-end.ensures) in
    node_next net cs k n case is seen (c.loop-node.invariant cs k is are) inside (sym c.in_ok-is_kept.ensures.kept ∙ c.if-not-branch.false) c.is_kept.new.seen.keys
    (c.in_ok-is_kept.ensures.at_peer c.if-not-branch.false) (c.in_ok-is_kept.ensures.at_router c.if-not-branch.false)

pub returns : goal.returns
returns c = λ cs k is are.
    let case = c.args.case.now in
    let past : length case.graph.nodes ≤ c.loop-node.node = omega (arith, c.loop-node-test.false, c.node_count-node-end.ensures) in
    case_seen c.args.net.now cs k c.loop-node.node case is c.loop-node.seen.keys (c.loop-node.invariant cs k is are) past
