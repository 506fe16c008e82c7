use Rattle.std.proofs.Common.{◌++◌, codes, sym, ap, ◌∙◌, append_assoc}
use Rattle.std.specs.Fmt.{decimal}
use Rattle.std.proofs.lemmas.Result.{on_ok_weaker}
use Rattle.policy_lint.specs.declared.finding.Finding.{Finding}
use Rattle.judging_jobs.specs.Lines.{finding_text}
use Rattle.judging_jobs.proofs.lines.push_text.Goals as goal

pub returns-in_ok-push_counted-in-Unreached : goal.returns-in_ok-push_counted-in-Unreached
returns-in_ok-push_counted-in-Unreached c =
    let old = c.args.text.now.items in
    let first = codes "unreached statement " ++ decimal c.in-Unreached.statement in
    let second = codes " alternative " ++ decimal c.in-Unreached.alternative in
    on_ok_weaker c.push_counted-in-Unreached-2.result
    (λ added. added ∙ ap (λ x. x ++ second) c.in_ok-push_counted-in-Unreached.ensures ∙ append_assoc old first second ∙ ap (λ (f : Finding). old ++ finding_text f) (sym c.in-Unreached.is))
    c.push_counted-in-Unreached-2.ensures
