use Rattle.std.proofs.Common.{arith, rules}
use Rattle.config_lines.specs.Lines.{export_line}
use Rattle.config_lines.proofs.FormWords.{by_words, other_length}
use Rattle.config_lines.proofs.OtherLengths.{other_export}
use Rattle.config_lines.proofs.read.read_export_line.Goals as goal

pub returns-in_default : goal.returns-in_default
returns-in_default c = other_export c.args.edition c.args.classes _ (other_length 3 c.args.words.now (λ e. grind (arith, e)))

pub returns-in_err-class : goal.returns-in_err-class
unfolding export_line
returns-in_err-class c = by_words (export_line c.args.edition c.args.classes) 3 c.args.words.now _ c.in-len3.len_at_least c.in-len3.len_below (search rules)

pub returns-in_err-expect : goal.returns-in_err-expect
unfolding export_line
returns-in_err-expect c = by_words (export_line c.args.edition c.args.classes) 3 c.args.words.now _ c.in-len3.len_at_least c.in-len3.len_below (search rules)

pub returns-in_err-tag : goal.returns-in_err-tag
unfolding export_line
returns-in_err-tag c = by_words (export_line c.args.edition c.args.classes) 3 c.args.words.now _ c.in-len3.len_at_least c.in-len3.len_below (search rules)

pub returns-in_err-class-2 : goal.returns-in_err-class-2
unfolding export_line
returns-in_err-class-2 c = by_words (export_line c.args.edition c.args.classes) 3 c.args.words.now _ c.in-len3.len_at_least c.in-len3.len_below (search rules)

pub returns-in_err-tag-2 : goal.returns-in_err-tag-2
unfolding export_line
returns-in_err-tag-2 c = by_words (export_line c.args.edition c.args.classes) 3 c.args.words.now _ c.in-len3.len_at_least c.in-len3.len_below (search rules)

pub returns : goal.returns
unfolding export_line
returns c = by_words (export_line c.args.edition c.args.classes) 3 c.args.words.now _ c.in-len3.len_at_least c.in-len3.len_below (search rules)
