use Rattle.net_base.specs.Prefixes.{IsPattern}
use Rattle.config_lines.specs.LineText.{next_pattern}
use Rattle.config_text.proofs.Rows.{Written}
use Rattle.config_text.proofs.push_more_patterns.Given as goal

abbrev pub invariant-loop-pattern : goal.invariant-loop-pattern
invariant-loop-pattern l = Written next_pattern IsPattern l.initial.text.items l.patterns l.text.items l.pattern-index
