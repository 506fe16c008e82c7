use Rattle.std.proofs.Common.{arith, rules}
use Rattle.config_lines.specs.Lines.{neighbour}
use Rattle.config_lines.proofs.FormWords.{by_words, other_length}
use Rattle.config_lines.proofs.OtherLengths.{other_neighbour}
use Rattle.config_lines.proofs.read.read_neighbour.Goals as goal

pub returns-in_default : goal.returns-in_default
returns-in_default c = other_neighbour _ (other_length 3 c.args.words.now (λ e. grind (arith, e)))

pub returns-in_err-expect : goal.returns-in_err-expect
unfolding neighbour
returns-in_err-expect c = by_words neighbour 3 c.args.words.now _ c.in-len3.len_at_least c.in-len3.len_below (search rules)

pub returns-in_err-name : goal.returns-in_err-name
unfolding neighbour
returns-in_err-name c = by_words neighbour 3 c.args.words.now _ c.in-len3.len_at_least c.in-len3.len_below (search rules)

pub returns-in_err-asn : goal.returns-in_err-asn
unfolding neighbour
returns-in_err-asn c = by_words neighbour 3 c.args.words.now _ c.in-len3.len_at_least c.in-len3.len_below (search rules)

pub returns-in_err-asn-2 : goal.returns-in_err-asn-2
unfolding neighbour
returns-in_err-asn-2 c = by_words neighbour 3 c.args.words.now _ c.in-len3.len_at_least c.in-len3.len_below (search rules)

pub returns : goal.returns
unfolding neighbour
returns c = by_words neighbour 3 c.args.words.now _ c.in-len3.len_at_least c.in-len3.len_below (search rules)
