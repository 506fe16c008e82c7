use Rattle.std.proofs.Common.{◌≡◌, Option, Some, None, ap, option_map, sym, ◌∙◌}
use Rattle.std.proofs.lemmas.Result.{IfOk-weaker}
use Rattle.evidence_base.specs.Made.{PlainCaseEvidence}
use Rattle.settled_outcome.specs.Outcomes.{case_of}
use Rattle.settled_outcome.specs.Surviving.{left_by}
use Rattle.settled_outcome.proofs.Surviving.{left_is_under}
use Rattle.settled_outcome.proofs.outcome.open_case.Goals as goal

pub returns-in-None : goal.returns-in-None
returns-in-None c = λ config passes f are d is.
    let none : None ≡ Some d = sym (ap (option_map (λ x. x.now)) c.in-None.is) ∙ c.case_of.ensures c.args.net.now config passes.made.lines ∙ is in
    absurd (cc)

pub returns-in-Some : goal.returns-in-Some
returns-in-Some c = IfOk-weaker c.open_graph.result _ _ (λ found left config passes f are d is.
    let net = c.args.net.now in
    let s = c.args.survivors.now in
    let found : Some c.in-Some.case.now ≡ Some d = sym (ap (option_map (λ x. x.now)) c.in-Some.is) ∙ c.case_of.ensures net config passes.made.lines ∙ is in
    let same : c.in-Some.case.now ≡ d = cc in
    left ∙ ap (left_by net s) (c.graph.ensures.graph ∙ ap (λ (e : PlainCaseEvidence). e.graph) same) ∙ left_is_under net f s are d.graph) c.open_graph.ensures
