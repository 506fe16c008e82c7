use Rattle.std.proofs.Common.{rules}
use Rattle.net_base.proofs.SetLaws.{holds-either}
use Rattle.net_base.proofs.loc.LocSet.union.Goals as goal

pub returns-clause-holds : goal.returns-clause-holds
returns-clause-holds c = λ l. rw c.either.ensures (holds-either c.args.self.now c.args.other.now (search rules) (search rules) l)
