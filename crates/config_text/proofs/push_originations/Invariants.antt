use Rattle.config_lines.specs.declared.edition.Edition.TheVariants.{Second}
use Rattle.config_text.specs.ConfigText.{own_line}
use Rattle.config_text.specs.Spelled.{HasPrefix}
use Rattle.config_text.proofs.Rows.{Written}
use Rattle.config_text.proofs.push_originations.Given as goal

abbrev pub invariant-loop-own : goal.invariant-loop-own
invariant-loop-own l = Written (own_line Second) HasPrefix l.initial.text.items l.owns l.text.items l.own-index
