use Rattle.std.proofs.Common.{refl}
use Rattle.topology.proofs.sites.Number.of.Goals as goal

pub returns-in-As : goal.returns-in-As
returns-in-As c = rw c.in-As.is refl

pub returns-in-Id : goal.returns-in-Id
returns-in-Id c = rw c.in-Id.is c.from.ensures
