use Rattle.std.proofs.Common.{ℕ, List, subst}
use Rattle.std.specs.Prelude.{IfOk}
use Rattle.policy_base.specs.declared.case.Case.{Case}
use Rattle.graph_base.specs.Graphs.{PlainGraph}
use Rattle.graph_base.specs.Rules.{KeepsListener}
use Rattle.graph_base.specs.Preferences.{number_in}
use Rattle.preference_check.specs.FirstPair.{IsFirstPairOrNone}
use Rattle.evidence_check.proofs.case_rules.first_by_listener.Goals as goal

pub returns : goal.returns
returns c =
    let net = c.args.net.now in
    let numbers = subst (λ (ns : List ℕ). IfOk c.listener_fault.result
    (IsFirstPairOrNone (KeepsListener net c.case.result.now.external c.graph.result.now (number_in ns)))) c.prefs.ensures
    c.listener_fault.ensures in
    let external = subst (λ (d : Case). IfOk c.listener_fault.result
    (IsFirstPairOrNone (KeepsListener net d.external c.graph.result.now (number_in c.args.case.now.numbers)))) c.case.ensures.case numbers in
    subst (λ (g : PlainGraph). IfOk c.listener_fault.result (IsFirstPairOrNone (KeepsListener net c.args.case.now.case.external g (number_in c.args.case.now.numbers)))) c.graph.ensures.graph external
