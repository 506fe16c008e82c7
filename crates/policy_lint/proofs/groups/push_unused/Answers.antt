use Rattle.std.proofs.Common.{◌++◌, List, map, ap, ◌∙◌}
use Rattle.std.specs.Prelude.{◌==◌, filter}
use Rattle.std.proofs.lemmas.List.Elements.{filter_agree}
use Rattle.policy_lint.specs.declared.finding.Finding.{Finding}
use Rattle.policy_lint.specs.declared.finding.Finding.TheVariants.{UnusedGroup}
use Rattle.policy_lint.specs.Groups.{count_of, group_names, is_unused}
use Rattle.policy_lint.proofs.groups.push_unused.Goals as goal

pub returns : goal.returns
returns c =
    let bytes = c.args.bytes.now in
    let tokens = c.args.tokens.now in
    let names = c.deref.ensures.value ∙ c.in_ok-names.ensures in
    c.in_ok-push_once.ensures
    ∙ ap (λ (fs : List Finding). c.args.findings.now.items ++ fs)
    (ap (λ ns. map UnusedGroup (filter (λ name. count_of c.in_ok-counts.counts name == 1) ns)) names
    ∙ ap (map UnusedGroup)
    (filter_agree (λ name. count_of c.in_ok-counts.counts name == 1) (is_unused bytes tokens) (λ name. ap (λ n. n == 1) (c.in_ok-counts.ensures name)) (group_names bytes tokens)))
