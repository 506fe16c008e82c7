use Rattle.std.proofs.Common.{rules}
use Rattle.config_lines.proofs.FormWords.{by_first_words}
use Rattle.route_map_text.specs.MapLines.{list_line}
use Rattle.route_map_text.proofs.read.read_list_line.Goals as goal

pub returns-in_err-number : goal.returns-in_err-number
unfolding list_line
returns-in_err-number c = by_first_words list_line 2 c.args.words.now _ c.in-len2-up.len_at_least (search rules)

pub returns-in_err-permit : goal.returns-in_err-permit
unfolding list_line
returns-in_err-permit c = by_first_words list_line 2 c.args.words.now _ c.in-len2-up.len_at_least (search rules)

pub returns-in_err-pattern : goal.returns-in_err-pattern
unfolding list_line
returns-in_err-pattern c = by_first_words list_line 2 c.args.words.now _ c.in-len2-up.len_at_least (search rules)

pub returns-in_err-number-2 : goal.returns-in_err-number-2
unfolding list_line
returns-in_err-number-2 c = by_first_words list_line 2 c.args.words.now _ c.in-len2-up.len_at_least (search rules)

pub returns : goal.returns
unfolding list_line
returns c = by_first_words list_line 2 c.args.words.now _ c.in-len2-up.len_at_least (search rules)
