use Rattle.config_lines.specs.declared.edition.Edition.TheVariants.{Second}
use Rattle.config_text.specs.ConfigText.{own_line}
use Rattle.config_text.specs.Spelled.{HasPrefix}
use Rattle.config_text.proofs.Rows.{one_more, all_written}
use Rattle.config_text.proofs.push_originations.Goals as goal

pub loop-own-preserved : goal.loop-own-preserved
loop-own-preserved c =
    one_more (own_line Second) HasPrefix c.args.text.now.items c.args.owns.now c.loop-own.text.items _ c.loop-own.own-index c.own-item.result
    c.loop-own-test.true c.own-item.is c.loop-own.invariant c.in_ok-push_origination.ensures.text c.in_ok-push_origination.ensures.rules

pub returns-clause-text : goal.returns-clause-text
returns-clause-text c = (all_written (own_line Second) HasPrefix c.args.text.now.items c.args.owns.now _ c.loop-own.own-index c.loop-own-test.false c.loop-own.invariant).0

pub returns-clause-rules : goal.returns-clause-rules
returns-clause-rules c = (all_written (own_line Second) HasPrefix c.args.text.now.items c.args.owns.now _ c.loop-own.own-index c.loop-own-test.false c.loop-own.invariant).1
