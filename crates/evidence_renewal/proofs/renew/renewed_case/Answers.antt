use Rattle.std.proofs.Common.{◌<◌, ◌^◌, ◌∙◌, List, length, map, ap, sym, subst}
use Rattle.std.specs.List.{AllByRecursion}
use Rattle.net_base.specs.declared.numbers.Tag.{Tag}
use Rattle.evidence_base.specs.Made.{PlainCaseEvidence}
use Rattle.free_tags.specs.Free.{AreNewTags}
use Rattle.evidence_renewal.specs.Renewed.{IsRenewedCase, raised}
use Rattle.evidence_renewal.proofs.Cases.{renewed_kept, renewed_parts}
use Rattle.evidence_renewal.proofs.renew.renewed_case.Goals as goal

pub new-requires : goal.new-requires
new-requires c =
    renewed_kept c.args.by c.args.case.now c.in_ok-copy.copy c.in_ok-graph.graph c.in_ok-numbers.numbers c.in_ok-tags.tags
    (c.in_ok-copy.ensures ∙ c.case.ensures.case) (c.in_ok-graph.ensures ∙ c.graph.ensures.graph) (c.in_ok-numbers.ensures.raised ∙ ap (map (raised c.args.by)) c.prefs.ensures)
    c.case.ensures.rules (c.in_ok-tags.ensures.long ∙ ap length c.tags.ensures)

pub returns-clause-renewed : goal.returns-clause-renewed
returns-clause-renewed c = λ taken leaves.
    let P : PlainCaseEvidence → Type 0 = IsRenewedCase taken c.args.by c.args.case.now in
    let Q : List Tag → Type 0 = λ ts. AreNewTags taken ts c.in_ok-tags.tags in
    subst P (sym c.new.ensures)
    (renewed_parts c.args.by c.args.case.now c.in_ok-copy.copy c.in_ok-graph.graph c.in_ok-numbers.numbers c.in_ok-tags.tags
    (c.in_ok-copy.ensures ∙ c.case.ensures.case) (c.in_ok-graph.ensures ∙ c.graph.ensures.graph) (c.in_ok-numbers.ensures.raised ∙ ap (map (raised c.args.by)) c.prefs.ensures)
    taken (subst (AllByRecursion (λ n. raised c.args.by n < 2 ^ 32)) c.prefs.ensures c.in_ok-numbers.ensures.fits) (subst Q c.tags.ensures (c.in_ok-tags.ensures.new taken leaves)))
