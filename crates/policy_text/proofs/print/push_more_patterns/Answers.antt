use Rattle.std.proofs.Common.{◌++◌, ◌+◌, ap, append_assoc, subst, take, take_all, ◌∙◌}
use Rattle.std.specs.Prelude.{codes}
use Rattle.std.specs.List.{AllByRecursion}
use Rattle.net_base.specs.Prefixes.{IsPattern}
use Rattle.text_parts.specs.Texts.{pattern_text}
use Rattle.policy_text.specs.PolicyText.{next_pattern}
use Rattle.policy_text.proofs.Adding.{added, one_more}
use Rattle.policy_text.proofs.print.push_more_patterns.Goals as goal

pub loop-pattern-preserved : goal.loop-pattern-preserved
loop-pattern-preserved c =
    let patterns = c.args.patterns.now in
    let i = c.loop-pattern.pattern-index in
    let pattern = c.pattern-item.result in
    added next_pattern IsPattern (take i patterns) (take (i + 1) patterns) pattern c.args.text.now.items c.loop-pattern.text.items c.push_pattern.new.text.items
    (one_more patterns i pattern c.loop-pattern-test.true c.pattern-item.is)
    (c.in_ok-push_pattern.ensures.text ∙ ap (λ t. t ++ pattern_text pattern) c.in_ok-push_bytes.ensures ∙ append_assoc c.loop-pattern.text.items (codes " or ") (pattern_text pattern))
    c.in_ok-push_pattern.ensures.rules c.loop-pattern.invariant

pub returns-clause-rules : goal.returns-clause-rules
returns-clause-rules c =
    subst (AllByRecursion IsPattern) (take_all c.loop-pattern.pattern-index c.args.patterns.now c.loop-pattern-test.false) c.loop-pattern.invariant.1
