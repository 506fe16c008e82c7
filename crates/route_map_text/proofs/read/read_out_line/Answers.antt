use Rattle.std.proofs.Common.{rules}
use Rattle.config_lines.proofs.FormWords.{by_first_words}
use Rattle.route_map_text.specs.MapLines.{out_line}
use Rattle.route_map_text.proofs.read.read_out_line.Goals as goal

pub returns-in_err-number : goal.returns-in_err-number
unfolding out_line
returns-in_err-number c = by_first_words (out_line c.args.lists) 3 c.args.words.now _ c.in-len3-up.len_at_least (search rules)

pub returns-in_err-expect : goal.returns-in_err-expect
unfolding out_line
returns-in_err-expect c = by_first_words (out_line c.args.lists) 3 c.args.words.now _ c.in-len3-up.len_at_least (search rules)

pub returns-in_err-list : goal.returns-in_err-list
unfolding out_line
returns-in_err-list c = by_first_words (out_line c.args.lists) 3 c.args.words.now _ c.in-len3-up.len_at_least (search rules)

pub returns-in_err-line : goal.returns-in_err-line
unfolding out_line
returns-in_err-line c = by_first_words (out_line c.args.lists) 3 c.args.words.now _ c.in-len3-up.len_at_least (search rules)

pub returns-in_err-number-2 : goal.returns-in_err-number-2
unfolding out_line
returns-in_err-number-2 c = by_first_words (out_line c.args.lists) 3 c.args.words.now _ c.in-len3-up.len_at_least (search rules)

pub returns : goal.returns
unfolding out_line
returns c = by_first_words (out_line c.args.lists) 3 c.args.words.now _ c.in-len3-up.len_at_least (search rules)
