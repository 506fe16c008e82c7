use Rattle.config_lines.specs.declared.edition.Edition.TheVariants.{Second}
use Rattle.config_text.specs.ConfigText.{session_text}
use Rattle.config_text.specs.Spelled.{IsNamed}
use Rattle.config_text.proofs.Rows.{one_more, all_written}
use Rattle.config_text.proofs.push_sessions.Goals as goal

pub loop-session-preserved : goal.loop-session-preserved
loop-session-preserved c =
    one_more (session_text Second) IsNamed c.args.text.now.items c.args.sessions.now c.loop-session.text.items _ c.loop-session.session-index c.session-item.result
    c.loop-session-test.true c.session-item.is c.loop-session.invariant c.in_ok-push_session.ensures.text c.in_ok-push_session.ensures.rules

pub returns-clause-text : goal.returns-clause-text
returns-clause-text c = (all_written (session_text Second) IsNamed c.args.text.now.items c.args.sessions.now _ c.loop-session.session-index c.loop-session-test.false c.loop-session.invariant).0

pub returns-clause-rules : goal.returns-clause-rules
returns-clause-rules c = (all_written (session_text Second) IsNamed c.args.text.now.items c.args.sessions.now _ c.loop-session.session-index c.loop-session-test.false c.loop-session.invariant).1
