use Rattle.std.proofs.Common.{◌≡◌, ◌∙◌, ℕ, List, subst}
use Rattle.list_law.proofs.Exits.{passed_on}
use Rattle.net_base.specs.declared.numbers.Tag.{Tag}
use Rattle.evidence_base.specs.Made.{PlainCaseEvidence}
use Rattle.free_tags.specs.Taken.{greatest, prefs_in, tags_in}
use Rattle.evidence_renewal.specs.Renewed.{AreRenewedCases, IsFaultOf}
use Rattle.evidence_renewal.proofs.renew.renewed_evidence.Goals as goal

pub returns-clause-renewed : goal.returns-clause-renewed
returns-clause-renewed c =
    let old = c.args.old.now in
    let new = c.in_ok-cases.cases in
    let taken : c.deref.result.now ≡ tags_in old = c.deref.ensures.value ∙ c.in_ok-taken.ensures in
    let P : List Tag → Type 0 = λ ts. AreRenewedCases ts c.greatest_pref-by.result c.as_slice.result.now new in
    let Q : ℕ → Type 0 = λ n. AreRenewedCases (tags_in old) n c.as_slice.result.now new in
    let R : List PlainCaseEvidence → Type 0 = λ cs. AreRenewedCases (tags_in old) (greatest (prefs_in old)) cs new in
    subst R c.as_slice.ensures (subst Q c.greatest_pref-by.ensures (subst P taken (c.in_ok-cases.ensures.renewed c.deref.result.now c.in_ok-free.ensures)))

pub returns-in_err-cases-clause-past : goal.returns-in_err-cases-clause-past
returns-in_err-cases-clause-past c =
    let Q : ℕ → Type 0 = λ n. IsFaultOf n c.as_slice.result.now c.in_err-cases.field-0.0 in
    let R : List PlainCaseEvidence → Type 0 = λ cs. IsFaultOf (greatest (prefs_in c.args.old.now)) cs c.in_err-cases.field-0.0 in
    rw (passed_on c.from_residual-in_err-cases.result c.from_residual-in_err-cases.ensures.1)
    (subst R c.as_slice.ensures (subst Q c.greatest_pref-by.ensures c.in_err-cases.ensures.past))
