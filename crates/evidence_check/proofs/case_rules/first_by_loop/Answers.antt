use Rattle.std.proofs.Common.{ℕ, List, subst}
use Rattle.std.specs.Prelude.{IfOk}
use Rattle.graph_base.specs.Graphs.{PlainGraph}
use Rattle.graph_base.specs.Rules.{KeepsLoop}
use Rattle.graph_base.specs.Preferences.{number_in}
use Rattle.preference_check.specs.FirstPair.{IsFirstPairOrNone}
use Rattle.evidence_check.proofs.case_rules.first_by_loop.Goals as goal

pub returns : goal.returns
returns c =
    let net = c.args.net.now in
    let numbers = subst (λ (ns : List ℕ). IfOk c.loop_fault.result (IsFirstPairOrNone (KeepsLoop net c.graph.result.now (number_in ns)))) c.prefs.ensures c.loop_fault.ensures in
    subst (λ (g : PlainGraph). IfOk c.loop_fault.result (IsFirstPairOrNone (KeepsLoop net g (number_in c.args.case.now.numbers)))) c.graph.ensures.graph numbers
