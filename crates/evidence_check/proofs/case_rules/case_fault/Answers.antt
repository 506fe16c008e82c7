use Rattle.std.proofs.Common.{sym, subst, arith}
use Rattle.std.proofs.lemmas.Result.{IfOk-weaker}
use Rattle.net_base.specs.Sets.{holds}
use Rattle.graph_base.specs.Graphs.{IsGraph}
use Rattle.evidence_verdicts.specs.declared.rule.CheckRule.TheVariants.{Walks}
use Rattle.evidence_check.specs.CaseFaults.{IsFaultFrom, IsFirstFault}
use Rattle.evidence_check.proofs.Faults.{leads_to_routers, passes, stops, walks_first, walks_kept}
use Rattle.evidence_check.proofs.case_rules.case_fault.Goals as goal

pub returns-in_default : goal.returns-in_default
returns-in_default c = λ policy cs k s of live.
    let net = c.args.net.now in
    let off = rw c.in_default.is at (c.in_ok-classes.ensures.fails s live) in
    subst (IsFirstFault 2 net policy cs k) (sym c.at_node.ensures) (stops net policy cs k Walks (0, 0) (omega arith) (walks_first net policy cs k s c.args.case.now of off))

pub rank_rules-requires-clause-routers : goal.rank_rules-requires-clause-routers
rank_rules-requires-clause-routers c =
    let net = c.args.net.now in
    let case = c.args.case.now in
    let graph = subst IsGraph c.graph.ensures.graph c.known_graph.ensures in
    let walks = rw c.in-Some.is at (c.in_ok-classes.ensures.holds c.requires.0 c.requires.1) in
    leads_to_routers net (holds case.case.origins) case.case.external case.graph c.known_net.ensures graph walks.formed

pub returns : goal.returns
returns c = λ policy cs k s of live.
    let net = c.args.net.now in
    let case = c.args.case.now in
    let graph = subst IsGraph c.graph.ensures.graph c.known_graph.ensures in
    let walks = rw c.in-Some.is at (c.in_ok-classes.ensures.holds s live) in
    IfOk-weaker c.rank_rules.result (IsFaultFrom 3 net policy cs k) (IsFaultFrom 2 net policy cs k)
    (λ o h. passes net policy cs k Walks (walks_kept net policy cs k s case of graph walks) o h) (c.rank_rules.ensures policy cs k s of live walks)
