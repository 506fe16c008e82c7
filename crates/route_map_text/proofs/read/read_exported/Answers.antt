use Rattle.std.proofs.Common.{arith, rules}
use Rattle.config_lines.proofs.FormWords.{by_words, other_length}
use Rattle.route_map_text.specs.MapLines.{exported}
use Rattle.route_map_text.proofs.OtherMapLengths.{other_exported}
use Rattle.route_map_text.proofs.read.read_exported.Goals as goal

pub returns-in_default : goal.returns-in_default
returns-in_default c = other_exported c.args.lists c.args.list _ (other_length 2 c.args.words.now (λ e. grind (arith, e)))

pub returns-in_err-expect : goal.returns-in_err-expect
unfolding exported
returns-in_err-expect c = by_words (exported c.args.lists c.args.list) 2 c.args.words.now _ c.in-len2.len_at_least c.in-len2.len_below (search rules)

pub returns-in_err-tag : goal.returns-in_err-tag
unfolding exported
returns-in_err-tag c = by_words (exported c.args.lists c.args.list) 2 c.args.words.now _ c.in-len2.len_at_least c.in-len2.len_below (search rules)

pub returns-in_err-class : goal.returns-in_err-class
unfolding exported
returns-in_err-class c = by_words (exported c.args.lists c.args.list) 2 c.args.words.now _ c.in-len2.len_at_least c.in-len2.len_below (search rules)

pub returns-in_err-tag-2 : goal.returns-in_err-tag-2
unfolding exported
returns-in_err-tag-2 c = by_words (exported c.args.lists c.args.list) 2 c.args.words.now _ c.in-len2.len_at_least c.in-len2.len_below (search rules)

pub returns : goal.returns
unfolding exported
returns c = by_words (exported c.args.lists c.args.list) 2 c.args.words.now _ c.in-len2.len_at_least c.in-len2.len_below (search rules)
