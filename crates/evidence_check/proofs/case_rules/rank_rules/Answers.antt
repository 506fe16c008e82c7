use Rattle.std.proofs.Common.{Some, None, sym, subst, arith}
use Rattle.std.proofs.lemmas.Result.{IfOk-weaker}
use Rattle.net_base.specs.Sets.{holds}
use Rattle.graph_base.specs.Graphs.{IsGraph}
use Rattle.graph_law.proofs.Claimed.{claimed_where_ranked}
use Rattle.evidence_law.proofs.FaithfulParts.{faithful_parts}
use Rattle.evidence_verdicts.specs.declared.rule.CheckRule.TheVariants.{Mixed, Ranks}
use Rattle.evidence_check.specs.CaseFaults.{IsFaultFrom, IsFirstFault}
use Rattle.evidence_check.proofs.Faults.{mixed_first, passes, ranks_first, stops}
use Rattle.evidence_check.proofs.case_rules.rank_rules.Goals as goal

pub returns-in-Some : goal.returns-in-Some
returns-in-Some c = λ policy cs k s of live walks.
    let net = c.args.net.now in
    let h = rw c.in-Some.is at (c.in_ok-node.ensures net s live walks) in
    subst (IsFirstFault 3 net policy cs k) (sym c.at_node.ensures)
    (stops net policy cs k Ranks (c.in-Some.node, 0) (omega arith) (ranks_first net policy cs k s c.args.case.now of (Some c.in-Some.node) h))

pub returns-in-Some-first_mixed : goal.returns-in-Some-first_mixed
returns-in-Some-first_mixed c = λ policy cs k s of live walks.
    let net = c.args.net.now in
    let case = c.args.case.now in
    let origin = holds case.case.origins in
    let graph = subst IsGraph c.graph.ensures.graph c.known_graph.ensures in
    let ranked = rw c.in_default.is at (c.in_ok-node.ensures net s live walks) in
    let kept = ranks_first net policy cs k s case of None ranked in
    let faithful = (faithful_parts net s origin case.case.external case.graph graph).1 (walks, ranked) in
    let h = c.in-Some-first_mixed.ensures s faithful in
    let here = subst (IsFirstFault 4 net policy cs k) (sym c.at_node-in-Some-first_mixed.ensures) (stops net policy cs k Mixed
    (c.in-Some-first_mixed.node, 0) (omega arith) (mixed_first net policy cs k s case of (Some c.in-Some-first_mixed.node) h)) in
    passes net policy cs k Ranks kept (Some c.at_node-in-Some-first_mixed.result) here

pub returns : goal.returns
returns c = λ policy cs k s of live walks.
    let net = c.args.net.now in
    let case = c.args.case.now in
    let origin = holds case.case.origins in
    let graph = subst IsGraph c.graph.ensures.graph c.known_graph.ensures in
    let ranked = rw c.in_default.is at (c.in_ok-node.ensures net s live walks) in
    let kept = ranks_first net policy cs k s case of None ranked in
    let faithful = (faithful_parts net s origin case.case.external case.graph graph).1 (walks, ranked) in
    let none = c.in_default-first_mixed.ensures s faithful in
    IfOk-weaker c.number_rules.result (IsFaultFrom 5 net policy cs k) (IsFaultFrom 3 net policy cs k)
    (λ o h. passes net policy cs k Ranks kept o (passes net policy cs k Mixed (mixed_first net policy cs k s case of None none) o h))
    (c.number_rules.ensures policy cs k s of (λ l. claimed_where_ranked net s case.case case.graph graph faithful l))
