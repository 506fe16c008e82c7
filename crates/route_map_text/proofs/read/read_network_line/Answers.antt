use Rattle.std.proofs.Common.{arith, rules}
use Rattle.config_lines.proofs.FormWords.{by_words, other_length}
use Rattle.route_map_text.specs.MapLines.{network_line}
use Rattle.route_map_text.proofs.OtherMapLengths.{other_network}
use Rattle.route_map_text.proofs.read.read_network_line.Goals as goal

pub returns-in_default : goal.returns-in_default
returns-in_default c = other_network c.args.lists _ (other_length 5 c.args.words.now (λ e. grind (arith, e)))

pub returns-in_err-prefix : goal.returns-in_err-prefix
unfolding network_line
returns-in_err-prefix c = by_words (network_line c.args.lists) 5 c.args.words.now _ c.in-len5.len_at_least c.in-len5.len_below (search rules)

pub returns-in_err-expect : goal.returns-in_err-expect
unfolding network_line
returns-in_err-expect c = by_words (network_line c.args.lists) 5 c.args.words.now _ c.in-len5.len_at_least c.in-len5.len_below (search rules)

pub returns-in_err-list : goal.returns-in_err-list
unfolding network_line
returns-in_err-list c = by_words (network_line c.args.lists) 5 c.args.words.now _ c.in-len5.len_at_least c.in-len5.len_below (search rules)

pub returns-in_err-expect-2 : goal.returns-in_err-expect-2
unfolding network_line
returns-in_err-expect-2 c = by_words (network_line c.args.lists) 5 c.args.words.now _ c.in-len5.len_at_least c.in-len5.len_below (search rules)

pub returns-in_err-tag : goal.returns-in_err-tag
unfolding network_line
returns-in_err-tag c = by_words (network_line c.args.lists) 5 c.args.words.now _ c.in-len5.len_at_least c.in-len5.len_below (search rules)

pub returns-in_err-class : goal.returns-in_err-class
unfolding network_line
returns-in_err-class c = by_words (network_line c.args.lists) 5 c.args.words.now _ c.in-len5.len_at_least c.in-len5.len_below (search rules)

pub returns-in_err-tag-2 : goal.returns-in_err-tag-2
unfolding network_line
returns-in_err-tag-2 c = by_words (network_line c.args.lists) 5 c.args.words.now _ c.in-len5.len_at_least c.in-len5.len_below (search rules)

pub returns : goal.returns
unfolding network_line
returns c = by_words (network_line c.args.lists) 5 c.args.words.now _ c.in-len5.len_at_least c.in-len5.len_below (search rules)
