use Rattle.std.proofs.Common.{rules}
use Rattle.config_lines.specs.Lines.{untagged_line}
use Rattle.config_lines.proofs.FormWords.{by_first_words}
use Rattle.config_lines.proofs.read.read_untagged_line.Goals as goal

pub returns-in_err-class : goal.returns-in_err-class
unfolding untagged_line
returns-in_err-class c = by_first_words (untagged_line c.args.edition c.args.classes) 1 c.args.words.now _ c.in-len1-up.len_at_least (search rules)

pub returns-in_err-setting : goal.returns-in_err-setting
unfolding untagged_line
returns-in_err-setting c = by_first_words (untagged_line c.args.edition c.args.classes) 1 c.args.words.now _ c.in-len1-up.len_at_least (search rules)

pub returns-in_err-read_class : goal.returns-in_err-read_class
unfolding untagged_line
returns-in_err-read_class c = by_first_words (untagged_line c.args.edition c.args.classes) 1 c.args.words.now _ c.in-len1-up.len_at_least (search rules)

pub returns-in_err-fitting_tag : goal.returns-in_err-fitting_tag
unfolding untagged_line
returns-in_err-fitting_tag c = by_first_words (untagged_line c.args.edition c.args.classes) 1 c.args.words.now _ c.in-len1-up.len_at_least (search rules)

pub returns-in_err-in_range : goal.returns-in_err-in_range
unfolding untagged_line
returns-in_err-in_range c = by_first_words (untagged_line c.args.edition c.args.classes) 1 c.args.words.now _ c.in-len1-up.len_at_least (search rules)

pub returns : goal.returns
unfolding untagged_line
returns c = by_first_words (untagged_line c.args.edition c.args.classes) 1 c.args.words.now _ c.in-len1-up.len_at_least (search rules)
