use Rattle.net_base.specs.Prefixes.{IsPattern}
use Rattle.config_lines.specs.LineText.{next_pattern}
use Rattle.config_text.proofs.Rows.{one_more, all_written, both_behind}
use Rattle.config_text.proofs.push_more_patterns.Goals as goal

pub loop-pattern-preserved : goal.loop-pattern-preserved
loop-pattern-preserved c =
    one_more next_pattern IsPattern c.args.text.now.items c.args.patterns.now c.loop-pattern.text.items _ c.loop-pattern.pattern-index c.pattern-item.result
    c.loop-pattern-test.true c.pattern-item.is c.loop-pattern.invariant
    (both_behind c.loop-pattern.text.items _ _ _ _ c.in_ok-push_bytes.ensures c.in_ok-push_pattern.ensures.text) c.in_ok-push_pattern.ensures.rules

pub returns-clause-text : goal.returns-clause-text
returns-clause-text c = (all_written next_pattern IsPattern c.args.text.now.items c.args.patterns.now _ c.loop-pattern.pattern-index c.loop-pattern-test.false c.loop-pattern.invariant).0

pub returns-clause-rules : goal.returns-clause-rules
returns-clause-rules c = (all_written next_pattern IsPattern c.args.text.now.items c.args.patterns.now _ c.loop-pattern.pattern-index c.loop-pattern-test.false c.loop-pattern.invariant).1
