use Rattle.std.proofs.Common.{arith, rules}
use Rattle.config_lines.specs.Lines.{setting}
use Rattle.config_lines.proofs.FormWords.{by_words, other_length}
use Rattle.config_lines.proofs.OtherLengths.{other_setting}
use Rattle.config_lines.proofs.read.read_setting.Goals as goal

pub returns-in_default : goal.returns-in_default
returns-in_default c = other_setting c.args.edition _ (other_length 4 c.args.words.now (λ e. grind (arith, e)))

pub returns-in_err-expect : goal.returns-in_err-expect
unfolding setting
returns-in_err-expect c = by_words (setting c.args.edition) 4 c.args.words.now _ c.in-len4.len_at_least c.in-len4.len_below (search rules)

pub returns-in_err-set : goal.returns-in_err-set
unfolding setting
returns-in_err-set c = by_words (setting c.args.edition) 4 c.args.words.now _ c.in-len4.len_at_least c.in-len4.len_below (search rules)

pub returns-in_err-expect-2 : goal.returns-in_err-expect-2
unfolding setting
returns-in_err-expect-2 c = by_words (setting c.args.edition) 4 c.args.words.now _ c.in-len4.len_at_least c.in-len4.len_below (search rules)

pub returns-in_err-pref : goal.returns-in_err-pref
unfolding setting
returns-in_err-pref c = by_words (setting c.args.edition) 4 c.args.words.now _ c.in-len4.len_at_least c.in-len4.len_below (search rules)

pub returns : goal.returns
unfolding setting
returns c = by_words (setting c.args.edition) 4 c.args.words.now _ c.in-len4.len_at_least c.in-len4.len_below (search rules)
