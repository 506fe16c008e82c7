use Rattle.std.proofs.Common.{sym, ap, ◌∙◌}
use Rattle.std.specs.List.{list_any}
use Rattle.net_base.specs.Prefixes.{PlainPattern, contains}
use Rattle.policy_base.specs.declared.case.Case.{Case}
use Rattle.policy_base.specs.Policies.{policy_of}
use Rattle.evidence_base.specs.Made.{patterns_of}
use Rattle.evidence_base.proofs.Classing.{class_found, class_later, patterns_at}
use Rattle.evidence_base.proofs.belonging.place_of.Goals as goal

pub returns-then-is_of_case-clause-class : goal.returns-then-is_of_case-clause-class
returns-then-is_of_case-clause-class c = λ net config lines.
    let policy = policy_of c.args.policy.now in
    let p = c.args.prefix in
    let has =
    sym (c.is_of_case.ensures ∙ ap (λ (x : Case). list_any (λ (pattern : PlainPattern). contains pattern p) (patterns_of policy x)) c.case.ensures.case) ∙ c.if-is_of_case.true in
    class_found policy p c.args.cases.now net config lines c.loop-i.i c.index-cases-i.result c.loop-i-test.true c.index-cases-i.is c.loop-i.invariant has

pub loop-i-preserved : goal.loop-i-preserved
loop-i-preserved c =
    let policy = policy_of c.args.policy.now in
    let p = c.args.prefix in
    let cs = c.args.cases.now in
    let without =
    sym (c.is_of_case.ensures ∙ ap (λ (x : Case). list_any (λ (pattern : PlainPattern). contains pattern p) (patterns_of policy x)) c.case.ensures.case) ∙ c.if-is_of_case.false in
    c.loop-i.invariant ∙ class_later (patterns_at policy p cs) p cs c.loop-i.i c.index-cases-i.result c.loop-i-test.true c.index-cases-i.is without
