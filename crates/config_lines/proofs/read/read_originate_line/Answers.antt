use Rattle.std.proofs.Common.{arith, rules}
use Rattle.config_lines.specs.Lines.{own_line}
use Rattle.config_lines.proofs.FormWords.{by_words, other_length}
use Rattle.config_lines.proofs.OtherLengths.{other_own}
use Rattle.config_lines.proofs.read.read_originate_line.Goals as goal

pub returns-in_default : goal.returns-in_default
returns-in_default c = other_own c.args.edition c.args.classes _ (other_length 4 c.args.words.now (λ e. grind (arith, e)))

pub returns-in_err-class : goal.returns-in_err-class
unfolding own_line
returns-in_err-class c = by_words (own_line c.args.edition c.args.classes) 4 c.args.words.now _ c.in-len4.len_at_least c.in-len4.len_below (search rules)

pub returns-in_err-prefix : goal.returns-in_err-prefix
unfolding own_line
returns-in_err-prefix c = by_words (own_line c.args.edition c.args.classes) 4 c.args.words.now _ c.in-len4.len_at_least c.in-len4.len_below (search rules)

pub returns-in_err-expect : goal.returns-in_err-expect
unfolding own_line
returns-in_err-expect c = by_words (own_line c.args.edition c.args.classes) 4 c.args.words.now _ c.in-len4.len_at_least c.in-len4.len_below (search rules)

pub returns-in_err-tag : goal.returns-in_err-tag
unfolding own_line
returns-in_err-tag c = by_words (own_line c.args.edition c.args.classes) 4 c.args.words.now _ c.in-len4.len_at_least c.in-len4.len_below (search rules)

pub returns : goal.returns
unfolding own_line
returns c = by_words (own_line c.args.edition c.args.classes) 4 c.args.words.now _ c.in-len4.len_at_least c.in-len4.len_below (search rules)
