use Rattle.std.proofs.Common.{◌++◌, ◌∷◌, [], List, sym, subst}
use Rattle.evidence_base.specs.Made.{PlainCaseEvidence}
use Rattle.evidence_renewal.specs.Renewed.{AreRenewedCases}
use Rattle.evidence_renewal.proofs.Cases.{renewed-push}
use Rattle.evidence_renewal.proofs.renew.push_renewed.Goals as goal

pub returns-clause-renewed : goal.returns-clause-renewed
returns-clause-renewed c = λ taken done leaves are.
    let case = c.args.case.now in
    let P : List PlainCaseEvidence → Type 0 = λ ds. AreRenewedCases taken c.args.by (done ++ case ∷ []) ds in
    subst P (sym c.in_ok-push.ensures.ok) (renewed-push taken c.args.by done c.args.all.now case c.in_ok-renewed.renewed are (c.in_ok-renewed.ensures.renewed taken leaves))
