use Rattle.std.proofs.Common.{ℕ, List, subst}
use Rattle.std.specs.Prelude.{IfOk, IsTrue}
use Rattle.net_base.specs.Sets.{holds}
use Rattle.graph_base.specs.Graphs.{PlainGraph}
use Rattle.graph_base.specs.Rules.{KeepsRank}
use Rattle.graph_base.specs.Preferences.{number_in}
use Rattle.preference_check.specs.FirstPair.{IsFirstPairOrNone}
use Rattle.evidence_check.proofs.case_rules.first_by_rank.Goals as goal

pub returns : goal.returns
returns c =
    let net = c.args.net.now in
    let numbers = subst (λ (ns : List ℕ). IfOk c.rank_fault.result
    (IsFirstPairOrNone (KeepsRank net (λ l. IsTrue (holds c.args.claimed.now l)) c.graph.result.now (number_in ns)))) c.prefs.ensures
    c.rank_fault.ensures in
    subst (λ (g : PlainGraph). IfOk c.rank_fault.result
    (IsFirstPairOrNone (KeepsRank net (λ l. IsTrue (holds c.args.claimed.now l)) g (number_in c.args.case.now.numbers))))
    c.graph.ensures.graph numbers
