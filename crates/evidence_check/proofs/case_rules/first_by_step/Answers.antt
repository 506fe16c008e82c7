use Rattle.std.proofs.Common.{ℕ, List, subst}
use Rattle.std.specs.Prelude.{IfOk}
use Rattle.graph_base.specs.Graphs.{PlainGraph}
use Rattle.graph_base.specs.Rules.{KeepsStep}
use Rattle.graph_base.specs.Preferences.{number_in}
use Rattle.preference_check.specs.FirstPair.{IsFirstPairOrNone}
use Rattle.evidence_check.proofs.case_rules.first_by_step.Goals as goal

pub returns : goal.returns
returns c =
    let net = c.args.net.now in
    let numbers = subst (λ (ns : List ℕ). IfOk c.step_fault.result (IsFirstPairOrNone (KeepsStep net c.graph.result.now (number_in ns)))) c.prefs.ensures c.step_fault.ensures in
    subst (λ (g : PlainGraph). IfOk c.step_fault.result (IsFirstPairOrNone (KeepsStep net g (number_in c.args.case.now.numbers)))) c.graph.ensures.graph numbers
