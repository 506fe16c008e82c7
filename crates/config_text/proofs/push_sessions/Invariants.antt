use Rattle.config_lines.specs.declared.edition.Edition.TheVariants.{Second}
use Rattle.config_text.specs.ConfigText.{session_text}
use Rattle.config_text.specs.Spelled.{IsNamed}
use Rattle.config_text.proofs.Rows.{Written}
use Rattle.config_text.proofs.push_sessions.Given as goal

abbrev pub invariant-loop-session : goal.invariant-loop-session
invariant-loop-session l = Written (session_text Second) IsNamed l.initial.text.items l.sessions l.text.items l.session-index
