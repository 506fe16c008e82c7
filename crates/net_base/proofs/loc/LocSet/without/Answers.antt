use Rattle.net_base.proofs.CommonSets.{holds-outside}
use Rattle.net_base.proofs.loc.LocSet.without.Goals as goal

pub returns-clause-holds : goal.returns-clause-holds
returns-clause-holds c = λ l. rw c.first_alone.ensures (holds-outside c.args.self.now c.args.other.now l)
