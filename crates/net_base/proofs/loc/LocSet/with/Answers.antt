use Rattle.std.proofs.Common.{rules}
use Rattle.net_base.proofs.SetLaws.{holds-one_more}
use Rattle.net_base.proofs.loc.LocSet.with.Goals as goal

pub returns-clause-holds : goal.returns-clause-holds
returns-clause-holds c = λ l. rw c.with_bit.ensures (holds-one_more c.args.self c.args.at l c.requires (search rules))
