use Rattle.std.proofs.Common.{◌∙◌, ap, sym, subst}
use Rattle.std.proofs.lemmas.Bool.{true≢false}
use Rattle.policy_base.specs.Policies.{policy_of}
use Rattle.stage_classes.specs.Cells.{cells}
use Rattle.evidence_reuse.specs.Reused.{LetsTakeOver}
use Rattle.evidence_reuse.proofs.Ends.{may_not}
use Rattle.evidence_reuse.proofs.Tags.{are_tags}
use Rattle.evidence_reuse.proofs.reuse.made_config.Goals as goal

pub config_of-requires-clause-differ : goal.config_of-requires-clause-differ
config_of-requires-clause-differ c = are_tags c.args.net.now c.args.cases.now c.requires.tags

pub verdict_on-requires : goal.verdict_on-requires
verdict_on-requires c = c.requires.cells ∙ ap (cells c.args.old.now.classes) (sym c.in_ok-config.ensures.classes)

pub returns-else-lets_take_over-clause-stop : goal.returns-else-lets_take_over-clause-stop
returns-else-lets_take_over-clause-stop c =
    may_not c.args.net.now (policy_of c.args.policy.now) c.args.old.now c.in_ok-config.config c.args.cases.now c.in_ok-config.ensures
    (λ free. true≢false (sym (c.lets_take_over.ensures.1 (subst LetsTakeOver (sym c.in_ok-verdict.ensures) free)) ∙ c.if-lets_take_over.false))
