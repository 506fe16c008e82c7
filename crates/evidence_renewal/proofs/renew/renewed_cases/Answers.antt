use Rattle.std.proofs.Common.{length, refl, ◌≡◌, ◌+◌, ◌++◌, ◌∷◌, [], ◌∙◌, List, take, sym, ap, subst}
use Rattle.std.proofs.lemmas.List.{take_all, take_more}
use Rattle.std.proofs.lemmas.Option.{slice_get_read}
use Rattle.list_law.proofs.Exits.{passed_on}
use Rattle.evidence_base.specs.Made.{PlainCaseEvidence}
use Rattle.evidence_renewal.specs.Renewed.{AreRenewedCases}
use Rattle.evidence_renewal.proofs.Cases.{case_fault}
use Rattle.evidence_renewal.proofs.renew.renewed_cases.Goals as goal

pub loop-place-preserved : goal.loop-place-preserved
loop-place-preserved c =
    let cs = c.args.cases.now in
    let i = c.loop-place.place in
    let e = c.index-cases-place.result in
    let more : take (i + 1) cs ≡ take i cs ++ e ∷ [] = take_more cs i e c.loop-place-test.true ∙ ap (λ (x : PlainCaseEvidence). take i cs ++ x ∷ []) (sym c.index-cases-place.is) in
    record {
      renewed = λ taken leaves.
          let P : List PlainCaseEvidence → Type 0 = λ xs. AreRenewedCases taken c.args.by xs c.push_renewed.new.all in
          subst P (sym more) (c.in_ok-push_renewed.ensures.renewed taken (take i cs) (c.loop-place.invariant.kept taken leaves) (c.loop-place.invariant.renewed taken leaves));
      kept = λ taken leaves. c.in_ok-push_renewed.ensures.kept taken (c.loop-place.invariant.kept taken leaves);
    }

pub returns-in_err-push_renewed-clause-past : goal.returns-in_err-push_renewed-clause-past
returns-in_err-push_renewed-clause-past c =
    let cs = c.args.cases.now in
    let at = slice_get_read cs (length cs) c.loop-place.place c.index-cases-place.result refl c.loop-place-test.true c.index-cases-place.is in
    let why = case_fault c.args.by cs c.loop-place.place c.index-cases-place.result at c.in_err-push_renewed.field-0.0 c.in_err-push_renewed.ensures.past in
    rw (passed_on c.from_residual.result c.from_residual.ensures.1) why

pub returns-clause-renewed : goal.returns-clause-renewed
returns-clause-renewed c = λ taken leaves.
    let P : List PlainCaseEvidence → Type 0 = λ cs. AreRenewedCases taken c.args.by cs c.loop-place.all in
    subst P (take_all c.loop-place.place c.args.cases.now c.loop-place-test.false) (c.loop-place.invariant.renewed taken leaves)
