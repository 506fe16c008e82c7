use Rattle.std.proofs.Common.{List, ◌∙◌, map, ap, sym, subst}
use Rattle.list_law.proofs.Exits.{passed_on}
use Rattle.net_base.specs.Prefixes.{PlainPattern}
use Rattle.policy_base.specs.Policies.{policy_of}
use Rattle.config_maker.specs.Conditions.{AreClasses, AreSingle}
use Rattle.evidence_base.specs.Made.{PlainCaseEvidence}
use Rattle.stage_classes.specs.Cells.{cells}
use Rattle.evidence_reuse.specs.Reused.{AreForEach, IsStop, classes_of}
use Rattle.evidence_reuse.proofs.Cases.{for_each}
use Rattle.evidence_reuse.proofs.Making.{classes, classes_alike, reused_by, singles, stop_fault}
use Rattle.evidence_reuse.proofs.reuse.reused.Goals as goal

pub renewed_config-requires-clause-renewed : goal.renewed_config-requires-clause-renewed
renewed_config-requires-clause-renewed c =
    (c.args.old.now, record { compiled = c.args.compiled.now.cases; made = c.requires.made; renewed = c.in_ok-renewed.ensures.renewed })

pub reused_cases-requires : goal.reused_cases-requires
reused_cases-requires c =
    let P : List PlainCaseEvidence → Type 0 = λ xs. AreForEach xs c.as_slice-4.result.now in
    let Q : List PlainCaseEvidence → Type 0 = λ ys. AreForEach c.args.compiled.now.cases ys in
    subst P (sym c.as_slice-3.ensures) (subst Q (sym c.as_slice-4.ensures) (for_each _ _ c.args.compiled.now.cases c.in_ok-renewed.renewed.cases c.in_ok-renewed.ensures.renewed))

pub judged_config-requires-clause-classes : goal.judged_config-requires-clause-classes
judged_config-requires-clause-classes c =
    let policy = policy_of c.args.policy.now in
    let is = reused_by c.args.net.now (policy_of c.args.policy.now) c.args.old.now c.args.evidence.now.cases c.args.compiled.now.cases c.requires.made c.in_ok-renewed.renewed.cases
    c.in_ok-renewed.ensures.renewed c.as_slice.result.now c.as_slice-2.result.now c.as_slice-3.result.now c.as_slice-4.result.now c.in_ok-cases.cases
    (c.as_slice.ensures ∙ c.in_ok-cells.ensures ∙ ap (λ (ps : List (List PlainPattern)). cells ps c.classes-2.result.now) c.classes.ensures.classes
    ∙ ap (cells c.args.old.now.classes) (c.classes-2.ensures.classes ∙ c.in_ok-plain.ensures.classes)) c.as_slice-2.ensures c.as_slice-3.ensures c.as_slice-4.ensures c.in_ok-cases.ensures in
    subst (λ (xs : List PlainCaseEvidence). AreClasses policy (map (λ (e : PlainCaseEvidence). e.case) xs)) (sym c.as_slice-6.ensures)
    (classes c.args.net.now policy c.args.old.now c.args.evidence.now.cases c.in_ok-cases.cases is c.known_policy.ensures)

pub judged_config-requires-clause-single : goal.judged_config-requires-clause-single
judged_config-requires-clause-single c =
    let is = reused_by c.args.net.now (policy_of c.args.policy.now) c.args.old.now c.args.evidence.now.cases c.args.compiled.now.cases c.requires.made c.in_ok-renewed.renewed.cases
    c.in_ok-renewed.ensures.renewed c.as_slice.result.now c.as_slice-2.result.now c.as_slice-3.result.now c.as_slice-4.result.now c.in_ok-cases.cases
    (c.as_slice.ensures ∙ c.in_ok-cells.ensures ∙ ap (λ (ps : List (List PlainPattern)). cells ps c.classes-2.result.now) c.classes.ensures.classes
    ∙ ap (cells c.args.old.now.classes) (c.classes-2.ensures.classes ∙ c.in_ok-plain.ensures.classes)) c.as_slice-2.ensures c.as_slice-3.ensures c.as_slice-4.ensures c.in_ok-cases.ensures in
    subst (AreSingle c.args.net.now) (sym c.as_slice-6.ensures)
    (singles c.args.net.now (policy_of c.args.policy.now) c.args.old.now c.args.evidence.now.cases c.in_ok-cases.cases is c.known_net.ensures c.requires.routers)

pub judged_config-requires-clause-cells : goal.judged_config-requires-clause-cells
judged_config-requires-clause-cells c =
    let policy = policy_of c.args.policy.now in
    let old = c.args.old.now.classes in
    let is = reused_by c.args.net.now (policy_of c.args.policy.now) c.args.old.now c.args.evidence.now.cases c.args.compiled.now.cases c.requires.made c.in_ok-renewed.renewed.cases
    c.in_ok-renewed.ensures.renewed c.as_slice.result.now c.as_slice-2.result.now c.as_slice-3.result.now c.as_slice-4.result.now c.in_ok-cases.cases
    (c.as_slice.ensures ∙ c.in_ok-cells.ensures ∙ ap (λ (ps : List (List PlainPattern)). cells ps c.classes-2.result.now) c.classes.ensures.classes
    ∙ ap (cells c.args.old.now.classes) (c.classes-2.ensures.classes ∙ c.in_ok-plain.ensures.classes)) c.as_slice-2.ensures c.as_slice-3.ensures c.as_slice-4.ensures c.in_ok-cases.ensures in
    let alike = classes_alike c.args.net.now policy c.args.old.now c.args.evidence.now.cases c.args.compiled.now.cases c.in_ok-cases.cases is in
    c.as_slice-5.ensures ∙ c.in_ok-cells.ensures
    ∙ ap (λ (ps : List (List PlainPattern)). cells ps c.classes-2.result.now) c.classes.ensures.classes
    ∙ ap (cells old) (c.classes-2.ensures.classes ∙ c.in_ok-plain.ensures.classes ∙ alike)
    ∙ ap (λ (xs : List PlainCaseEvidence). cells old (classes_of policy xs)) (sym c.as_slice-6.ensures)

pub returns-in_err-config-clause-fault : goal.returns-in_err-config-clause-fault
returns-in_err-config-clause-fault c =
    let policy = policy_of c.args.policy.now in
    let is = reused_by c.args.net.now (policy_of c.args.policy.now) c.args.old.now c.args.evidence.now.cases c.args.compiled.now.cases c.requires.made c.in_ok-renewed.renewed.cases
    c.in_ok-renewed.ensures.renewed c.as_slice.result.now c.as_slice-2.result.now c.as_slice-3.result.now c.as_slice-4.result.now c.in_ok-cases.cases
    (c.as_slice.ensures ∙ c.in_ok-cells.ensures ∙ ap (λ (ps : List (List PlainPattern)). cells ps c.classes-2.result.now) c.classes.ensures.classes
    ∙ ap (cells c.args.old.now.classes) (c.classes-2.ensures.classes ∙ c.in_ok-plain.ensures.classes)) c.as_slice-2.ensures c.as_slice-3.ensures c.as_slice-4.ensures c.in_ok-cases.ensures in
    let e = c.in_err-config.field-0.0 in
    let stop = subst (λ (xs : List PlainCaseEvidence). IsStop c.args.net.now policy c.args.old.now xs e) c.as_slice-6.ensures c.in_err-config.ensures.stop in
    rw (passed_on c.from_residual-in_err-config.result c.from_residual-in_err-config.ensures.1)
    (stop_fault c.args.net.now policy c.args.old.now c.args.evidence.now.cases c.args.compiled.now.cases c.in_ok-cases.cases is e stop)
