use Rattle.std.proofs.Common.{◌++◌, ap, subst, ◌∙◌, arith}
use Rattle.config_lines.specs.declared.edition.Edition.TheVariants.{Second}
use Rattle.config_text.specs.ConfigText.{class_line}
use Rattle.config_text.specs.Spelled.{ArePatterns}
use Rattle.config_text.proofs.Rows.{class_more, rule_more, all_rules}
use Rattle.config_text.proofs.push_classes.Goals as goal

pub loop-patterns-preserved : goal.loop-patterns-preserved
loop-patterns-preserved c = (
  omega (arith, c.loop-patterns.invariant.0),
  class_more c.loop-patterns.number _ c.loop-patterns.text.items _ c.args.classes.now c.loop-patterns.patterns-index c.patterns-item.result c.loop-patterns-test.true c.loop-patterns.invariant.1
      (c.in_ok-push_class.ensures.text ∙ ap (λ x. c.loop-patterns.text.items ++ class_line Second c.loop-patterns.number x) (c.as_slice.ensures ∙ c.patterns-item.is)),
  rule_more ArePatterns c.args.classes.now c.loop-patterns.patterns-index c.patterns-item.result c.loop-patterns-test.true c.loop-patterns.invariant.2
      (subst ArePatterns (c.as_slice.ensures ∙ c.patterns-item.is) c.in_ok-push_class.ensures.rules),
)

pub returns-clause-rules : goal.returns-clause-rules
returns-clause-rules c = all_rules ArePatterns c.args.classes.now c.loop-patterns.patterns-index c.loop-patterns-test.false c.loop-patterns.invariant.2
