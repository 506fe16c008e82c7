use Rattle.std.proofs.Common.{rules}
use Rattle.config_lines.proofs.FormWords.{by_first_words}
use Rattle.route_map_text.specs.MapLines.{matched}
use Rattle.route_map_text.proofs.read.read_matched.Goals as goal

pub returns-in_err-expect : goal.returns-in_err-expect
unfolding matched
returns-in_err-expect c = by_first_words (matched c.args.lists c.args.list) 2 c.args.words.now _ c.in-len2-up.len_at_least (search rules)

pub returns-in_err-tag : goal.returns-in_err-tag
unfolding matched
returns-in_err-tag c = by_first_words (matched c.args.lists c.args.list) 2 c.args.words.now _ c.in-len2-up.len_at_least (search rules)

pub returns-in_err-setting : goal.returns-in_err-setting
unfolding matched
returns-in_err-setting c = by_first_words (matched c.args.lists c.args.list) 2 c.args.words.now _ c.in-len2-up.len_at_least (search rules)

pub returns-in_err-read_class : goal.returns-in_err-read_class
unfolding matched
returns-in_err-read_class c = by_first_words (matched c.args.lists c.args.list) 2 c.args.words.now _ c.in-len2-up.len_at_least (search rules)

pub returns-in_err-fitting_tag : goal.returns-in_err-fitting_tag
unfolding matched
returns-in_err-fitting_tag c = by_first_words (matched c.args.lists c.args.list) 2 c.args.words.now _ c.in-len2-up.len_at_least (search rules)

pub returns-in_err-fitting_tag-2 : goal.returns-in_err-fitting_tag-2
unfolding matched
returns-in_err-fitting_tag-2 c = by_first_words (matched c.args.lists c.args.list) 2 c.args.words.now _ c.in-len2-up.len_at_least (search rules)

pub returns-in_err-in_range : goal.returns-in_err-in_range
unfolding matched
returns-in_err-in_range c = by_first_words (matched c.args.lists c.args.list) 2 c.args.words.now _ c.in-len2-up.len_at_least (search rules)

pub returns : goal.returns
unfolding matched
returns c = by_first_words (matched c.args.lists c.args.list) 2 c.args.words.now _ c.in-len2-up.len_at_least (search rules)
