use Rattle.std.proofs.Common.{◌^◌, arith}
use Rattle.list_law.proofs.Items.{all_below}
use Rattle.policy_text.proofs.names.are_words.Goals as goal

pub returns : goal.returns
returns c = all_below (2 ^ 64) c.args.words.now (λ i. omega (arith, c.type_inv.words i))
