use Rattle.std.proofs.Common.{sym, subst}
use Rattle.std.specs.Prelude.{IfOk, IfNone, IfSome}
use Rattle.net_base.specs.Sets.{holds}
use Rattle.policy_base.specs.declared.case.Case.{Case}
use Rattle.graph_base.specs.Graphs.{PlainGraph}
use Rattle.evidence_law.specs.Faithful.{HasWalks, IsFaithful}
use Rattle.walk_check.specs.Alike.{AreAlike, IsSingleStepped}
use Rattle.evidence_check.proofs.case_rules.walk_classes.Goals as goal

pub returns-clause-alike : goal.returns-clause-alike
returns-clause-alike c = subst (λ (g : PlainGraph). IfOk c.walks.result (λ o. IfSome o (λ classes. AreAlike c.args.live.now g classes))) c.graph.ensures.graph c.walks.ensures.alike

pub returns-clause-single : goal.returns-clause-single
returns-clause-single c = subst (λ (g : PlainGraph). IfOk c.walks.result (λ o. IfSome o (λ _. IsSingleStepped g))) c.graph.ensures.graph c.walks.ensures.single

pub returns-clause-holds : goal.returns-clause-holds
returns-clause-holds c = λ s live.
    let net = c.args.net.now in
    let case = c.args.case.now in
    let here = subst (λ (d : Case). IsFaithful net s (holds d.origins) d.external c.args.live.now) (sym c.case.ensures.case) live in
    subst (λ (g : PlainGraph). IfOk c.walks.result (λ o. IfSome o (λ _. HasWalks net s (holds case.case.origins) case.case.external g))) c.graph.ensures.graph
    (subst (λ (d : Case). IfOk c.walks.result (λ o. IfSome o (λ _. HasWalks net s (holds d.origins) d.external c.graph.result.now))) c.case.ensures.case (c.walks.ensures.holds s here))

pub returns-clause-fails : goal.returns-clause-fails
returns-clause-fails c = λ s live.
    let net = c.args.net.now in
    let case = c.args.case.now in
    let here = subst (λ (d : Case). IsFaithful net s (holds d.origins) d.external c.args.live.now) (sym c.case.ensures.case) live in
    subst (λ (g : PlainGraph). IfOk c.walks.result (λ o. IfNone o (HasWalks net s (holds case.case.origins) case.case.external g → ⊥))) c.graph.ensures.graph
    (subst (λ (d : Case). IfOk c.walks.result (λ o. IfNone o (HasWalks net s (holds d.origins) d.external c.graph.result.now → ⊥))) c.case.ensures.case (c.walks.ensures.fails s here))
