use Rattle.std.proofs.Common.{arith}
use Rattle.policy_text.proofs.NameLists.{names_from-append}
use Rattle.policy_text.proofs.names.names_in.Goals as goal

pub returns-clause-names : goal.returns-clause-names
returns-clause-names c = rw (names_from-append c.args.set.now 0 c.args.net.now.routers c.args.net.now.peers) (grind arith)
