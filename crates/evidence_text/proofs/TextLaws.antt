-- What a text's answer says of it.
use Rattle.std.proofs.Common.{◌≡◌, ℕ, List, Some, Result, Ok, Err, true, sym, ap, ◌∙◌, subst, map, refl, arith, true≢false}
use Rattle.std.specs.Prelude.{◌==◌}
use Rattle.std.specs.List.{AllByRecursion, list_all}
use Rattle.std.proofs.Common.{eq-eqb}
use Rattle.std.proofs.lemmas.Bool.{eqb-true, eqb-false}
use Rattle.std.proofs.lemmas.Option.{same_Some}
use Rattle.list_law.proofs.Each.{AllByRecursion-map, AllByRecursion-weaker}
use Rattle.serde_json.specs.Data.{Data}
use Rattle.json_values.specs.Json.{json_of}
use Rattle.json_values.proofs.JsonTexts.{json_of-read, json_of-value}
use Rattle.json_values.specs.TextRules.{Says, KeepsBelow}
use Rattle.json_values.proofs.FirstRule.{Outcome, below_3, next, broken}
use Rattle.json_values.proofs.OnlyFaults.{IsOf, only_err}
use Rattle.json_values.proofs.TextLaws as texts
use Rattle.net_base.specs.Steps.{◌>>=◌, or_fault, unless}
use Rattle.net_base.proofs.StepLemmas.{bind_ok, err_same, ok_not_err, ok_same, or_fault_ok, unless_ok}
use Rattle.net_base.proofs.StepOutcomes.{bind_case, or_fault_err, unless_err}
use Rattle.evidence_base.specs.Evidence.{IsCaseEvidence}
use Rattle.evidence_base.specs.Made.{PlainCaseEvidence}
use Rattle.evidence_text.specs.declared.parts.Field.{Field}
use Rattle.evidence_text.specs.declared.parts.Field.TheVariants as field
use Rattle.evidence_text.specs.declared.fault.EvidenceFault.{EvidenceFault}
use Rattle.evidence_text.specs.declared.fault.EvidenceFault.TheVariants.{NotJson, Shape, Number, Place, Version}
use Rattle.evidence_text.specs.declared.raw.RawEvidence.{RawEvidence}
use Rattle.evidence_text.specs.declared.raw.ReadText.{ReadText}
use Rattle.evidence_text.specs.Faults.{number_of}
use Rattle.evidence_text.specs.Laws.{IsEvidenceOf, rules}
use Rattle.evidence_text.specs.Ranges.{HasRanges, IsReadCase}
use Rattle.evidence_text.specs.Shape.{each, shape_of}
use Rattle.evidence_text.specs.Spelled.{numbered_case, numbered, is_placed, evidence_of, judged, spelled}
use Rattle.evidence_text.proofs.FaultKinds.{shape_only, numbered_only}
use Rattle.evidence_text.proofs.InRange.{is_case_evidence, numbered_in, of_ok, shape_in}

-- ---- the rules are judged in their order

numbered_version : (raw : RawEvidence) (text : ReadText) → numbered raw ≡ Ok text → raw.version ≡ Some text.version
unfolding numbered
numbered_version raw text h =
    let p = bind_ok (each numbered_case raw.cases) _ text h in
    let q = bind_ok (or_fault (Number field.Version) raw.version) _ text p.2 in
    let made : ReadText = record { cases = p.0; version = q.0 } in
    or_fault_ok (Number field.Version) raw.version q.0 q.1 ∙ ap (λ (t : ReadText). Some t.version) (ok_same made text q.2)

judged_outcome : (raw : RawEvidence) (y : Result (List PlainCaseEvidence) EvidenceFault) → judged raw ≡ y → Outcome (rules raw) number_of y
unfolding judged
judged_outcome raw y h =
    bind_case (Outcome (rules raw) number_of y) (numbered raw) _ y h
    (λ e p same. broken (rules raw) number_of 3 y e (below_3 (rules raw)) ((λ has. ok_not_err has.0 e (sym has.1 ∙ p)), ap number_of (only_err (IsOf Number) (numbered raw) e (numbered_only raw) p).1)
    same)
    (λ text p g.
    let below_4 = next (rules raw) 3 (below_3 (rules raw)) (text, p) in
    bind_case (Outcome (rules raw) number_of y) (unless Place (list_all is_placed text.cases)) _ y g
    (λ e q same. let r = unless_err Place e (list_all is_placed text.cases) q in
    broken (rules raw) number_of 4 y e below_4 ((λ placed. true≢false (sym (placed text p) ∙ r.1)), ap number_of (sym r.0)) same)
    (λ u q g.
    let below_5 =
    next (rules raw) 4 below_4
    (λ other is. ap (λ (t : ReadText). list_all is_placed t.cases) (ok_same other text (sym is ∙ p)) ∙ unless_ok Place (list_all is_placed text.cases) u q) in
    bind_case (Outcome (rules raw) number_of y) (unless Version (text.version == 1)) _ y g
    (λ e q same. let r = unless_err Version e (text.version == 1) q in
    broken (rules raw) number_of 5 y e below_5
    ((λ first. eqb-false text.version 1 r.1 (same_Some text.version 1 (sym (numbered_version raw text p) ∙ first))), ap number_of (sym r.0)) same)
    (λ u q g. rw (← g) (next (rules raw) 5 below_5 (numbered_version raw text p ∙ ap (λ n. Some n) (eqb-true text.version 1 (unless_ok Version (text.version == 1) u q)))))))

judged_evidence : (raw : RawEvidence) (cs : List PlainCaseEvidence) → judged raw ≡ Ok cs → IsEvidenceOf raw cs
unfolding judged
judged_evidence raw cs h =
    let a = bind_ok (numbered raw) _ cs h in
    let b = bind_ok (unless Place (list_all is_placed a.0.cases)) _ cs a.2 in
    let c = bind_ok (unless Version (a.0.version == 1)) _ cs b.2 in
    (a.0, a.1, ok_same (map evidence_of a.0.cases) cs c.2)

pub answers : texts.Answers NotJson Shape number_of shape_of rules spelled
unfolding spelled
answers = texts.answers NotJson Shape number_of shape_of rules judged judged_outcome shape_only (λ _ same. cc) (λ _. tt) (λ _ _. tt)

-- ---- texts that are read

pub says_read : (bytes : List ℕ) (cs : List PlainCaseEvidence) → spelled bytes ≡ Ok cs → (raw : RawEvidence) × Says shape_of bytes raw × KeepsBelow (rules raw) 6 × IsEvidenceOf raw cs
unfolding spelled
says_read bytes cs h =
    let r = texts.says_read NotJson shape_of judged bytes cs h in
    (r.0, r.1, judged_outcome r.0 (Ok cs) r.2, judged_evidence r.0 cs r.2)

-- the answer to a text, from what each step gives
pub spelled_as : (bytes : List ℕ) (d : Data) (raw : RawEvidence) (text : ReadText) → json_of bytes ≡ Some d → shape_of d ≡ Ok raw → numbered raw ≡ Ok text
    → list_all is_placed text.cases ≡ true → (text.version == 1) ≡ true → spelled bytes ≡ Ok (map evidence_of text.cases)
unfolding spelled judged
spelled_as bytes d raw text is shaped in_range placed first = rw (is, shaped, in_range, placed, first) refl

pub read_where_kept : (bytes : List ℕ) (raw : RawEvidence) (cs : List PlainCaseEvidence) → Says shape_of bytes raw → KeepsBelow (rules raw) 6 → IsEvidenceOf raw cs → spelled bytes ≡ Ok cs
read_where_kept bytes raw cs says keeps of =
    spelled_as bytes says.0 raw of.0 (json_of-read bytes says.0 says.1 says.2) says.3 of.1 (keeps 4 (omega arith) of.0 of.1)
    (eq-eqb of.0.version 1 (same_Some of.0.version 1 (sym (numbered_version raw of.0 of.1) ∙ keeps 5 (omega arith))))
    ∙ ap Ok of.2

-- what is read keeps the rules of evidence
pub rules_read : (bytes : List ℕ) (cs : List PlainCaseEvidence) → spelled bytes ≡ Ok cs → AllByRecursion IsCaseEvidence cs
unfolding spelled
rules_read bytes cs h =
    let r = texts.says_read NotJson shape_of judged bytes cs h in
    let of = judged_evidence r.0 cs r.2 in
    let ranges = of_ok (λ (t : RawEvidence). AllByRecursion HasRanges t.cases) (shape_of r.1.0) r.0 (shape_in r.1.0) r.1.3 in
    let cases = of_ok (λ (t : ReadText). AllByRecursion IsReadCase t.cases) (numbered r.0) of.0 (numbered_in r.0 ranges) of.1 in
    subst (AllByRecursion IsCaseEvidence) of.2
    (AllByRecursion-map evidence_of IsCaseEvidence of.0.cases (AllByRecursion-weaker IsReadCase (λ c. IsCaseEvidence (evidence_of c)) of.0.cases is_case_evidence cases))

-- ---- numbers out of their ranges

-- a fault of a number is no other fault
not_shape : (f : Field) (e : EvidenceFault) → IsOf Shape e → Number f ≡ e → ⊥
not_shape f e shape same = let is = shape.1 in cc

not_place : (f : Field) → Number f ≡ Place → ⊥
not_place f same = cc

not_version : (f : Field) → Number f ≡ Version → ⊥
not_version f same = cc

not_no_json : (f : Field) → Number f ≡ NotJson → ⊥
not_no_json f same = cc

-- the rules that come later aren't told by it
judged_number : (raw : RawEvidence) (f : Field) → judged raw ≡ Err (Number f) → numbered raw ≡ Err (Number f)
unfolding judged
judged_number raw f h =
    bind_case (numbered raw ≡ Err (Number f)) (numbered raw) _ (Err (Number f)) h
    (λ e p same. p ∙ ap (λ d. Err d) (sym (err_same (Number f) e same)))
    (λ text _ g.
    bind_case (numbered raw ≡ Err (Number f)) (unless Place (list_all is_placed text.cases)) _ (Err (Number f)) g
    (λ e q same. absurd (not_place f (err_same (Number f) e same ∙ sym (unless_err Place e (list_all is_placed text.cases) q).0)))
    (λ _ _ g.
    bind_case (numbered raw ≡ Err (Number f)) (unless Version (text.version == 1)) _ (Err (Number f)) g
    (λ e q same. absurd (not_version f (err_same (Number f) e same ∙ sym (unless_err Version e (text.version == 1) q).0)))
    (λ _ _ g. absurd (ok_not_err (map evidence_of text.cases) (Number f) g))))

pub number-only : (bytes : List ℕ) (f : Field) → spelled bytes ≡ Err (Number f) → (raw : RawEvidence) × Says shape_of bytes raw × (numbered raw ≡ Err (Number f))
unfolding spelled
number-only bytes f h =
    bind_case ((raw : RawEvidence) × Says shape_of bytes raw × (numbered raw ≡ Err (Number f))) (or_fault NotJson (json_of bytes)) (λ d. shape_of d >>= judged) (Err (Number f)) h
    (λ e p same. absurd (not_no_json f (err_same (Number f) e same ∙ sym (or_fault_err NotJson e (json_of bytes) p).0)))
    (λ d p g. let v = json_of-value bytes d (or_fault_ok NotJson (json_of bytes) d p) in
    bind_case ((raw : RawEvidence) × Says shape_of bytes raw × (numbered raw ≡ Err (Number f))) (shape_of d) judged (Err (Number f)) g
    (λ e q same. absurd (not_shape f e (only_err (IsOf Shape) (shape_of d) e (shape_only d) q) (err_same (Number f) e same)))
    (λ raw q g. (raw, (d, v.0, v.1, q), judged_number raw f g)))

pub number-all : (bytes : List ℕ) (f : Field) (raw : RawEvidence) → Says shape_of bytes raw → numbered raw ≡ Err (Number f) → spelled bytes ≡ Err (Number f)
unfolding spelled judged
number-all bytes f raw says is = rw (json_of-read bytes says.0 says.1 says.2, says.3, is) refl
