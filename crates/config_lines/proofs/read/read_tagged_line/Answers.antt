use Rattle.std.proofs.Common.{rules}
use Rattle.config_lines.specs.Lines.{tagged_line}
use Rattle.config_lines.proofs.FormWords.{by_first_words}
use Rattle.config_lines.proofs.read.read_tagged_line.Goals as goal

pub returns-in_err-class : goal.returns-in_err-class
unfolding tagged_line
returns-in_err-class c = by_first_words (tagged_line c.args.edition c.args.classes) 3 c.args.words.now _ c.in-len3-up.len_at_least (search rules)

pub returns-in_err-expect : goal.returns-in_err-expect
unfolding tagged_line
returns-in_err-expect c = by_first_words (tagged_line c.args.edition c.args.classes) 3 c.args.words.now _ c.in-len3-up.len_at_least (search rules)

pub returns-in_err-tag : goal.returns-in_err-tag
unfolding tagged_line
returns-in_err-tag c = by_first_words (tagged_line c.args.edition c.args.classes) 3 c.args.words.now _ c.in-len3-up.len_at_least (search rules)

pub returns-in_err-setting : goal.returns-in_err-setting
unfolding tagged_line
returns-in_err-setting c = by_first_words (tagged_line c.args.edition c.args.classes) 3 c.args.words.now _ c.in-len3-up.len_at_least (search rules)

pub returns : goal.returns
unfolding tagged_line
returns c = by_first_words (tagged_line c.args.edition c.args.classes) 3 c.args.words.now _ c.in-len3-up.len_at_least (search rules)
