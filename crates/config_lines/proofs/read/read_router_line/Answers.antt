use Rattle.std.proofs.Common.{arith, rules}
use Rattle.config_lines.specs.Lines.{router_line}
use Rattle.config_lines.proofs.FormWords.{by_words, other_length}
use Rattle.config_lines.proofs.OtherLengths.{other_router}
use Rattle.config_lines.proofs.read.read_router_line.Goals as goal

pub returns-in_default : goal.returns-in_default
returns-in_default c = other_router c.args.edition _ (other_length 5 c.args.words.now (λ e. grind (arith, e)))

pub returns-in_err-expect : goal.returns-in_err-expect
unfolding router_line
returns-in_err-expect c = by_words (router_line c.args.edition) 5 c.args.words.now _ c.in-len5.len_at_least c.in-len5.len_below (search rules)

pub returns-in_err-expect-2 : goal.returns-in_err-expect-2
unfolding router_line
returns-in_err-expect-2 c = by_words (router_line c.args.edition) 5 c.args.words.now _ c.in-len5.len_at_least c.in-len5.len_below (search rules)

pub returns-in_err-asn : goal.returns-in_err-asn
unfolding router_line
returns-in_err-asn c = by_words (router_line c.args.edition) 5 c.args.words.now _ c.in-len5.len_at_least c.in-len5.len_below (search rules)

pub returns-in_err-id : goal.returns-in_err-id
unfolding router_line
returns-in_err-id c = by_words (router_line c.args.edition) 5 c.args.words.now _ c.in-len5.len_at_least c.in-len5.len_below (search rules)

pub returns-in_err-name : goal.returns-in_err-name
unfolding router_line
returns-in_err-name c = by_words (router_line c.args.edition) 5 c.args.words.now _ c.in-len5.len_at_least c.in-len5.len_below (search rules)

pub returns : goal.returns
unfolding router_line
returns c = by_words (router_line c.args.edition) 5 c.args.words.now _ c.in-len5.len_at_least c.in-len5.len_below (search rules)
