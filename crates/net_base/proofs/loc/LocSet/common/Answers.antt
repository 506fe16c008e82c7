use Rattle.net_base.proofs.CommonSets.{holds-common}
use Rattle.net_base.proofs.loc.LocSet.common.Goals as goal

pub returns-clause-holds : goal.returns-clause-holds
returns-clause-holds c = λ l. rw c.both.ensures (holds-common c.args.self.now c.args.other.now l)
