-- The lines of a trace before those of its report.
use Rattle.std.specs.Prelude.{Bool, ℕ, List, ◌++◌, codes, if◌then◌else◌}
use Rattle.std.specs.Fmt.{decimal}
use Rattle.text_parts.specs.Texts.{word_text}
use Rattle.event_base.specs.Words.{word_of}
use Rattle.trace_report.specs.declared.refused.Refused.{Refused}

-- a refused event
unfoldable pub refused_line : Refused → List ℕ
refused_line r = codes "event " ++ decimal r.number ++ word_text (word_of r.why) ++ codes "\n"

-- whether no message waits
abbrev pub quiet_line : Bool → List ℕ
quiet_line quiet = if quiet then codes "quiet yes\n" else codes "quiet no\n"
