use Rattle.net_base.specs.Sets.{holds}
use Rattle.evidence_law.proofs.Listeners.{listeners_ranked}
use Rattle.graph_law.proofs.listeners_are_ranked.Goals as goal

pub returns : goal.returns
returns c = λ net s case g n rules faithful. listeners_ranked net s (holds case.origins) case.external g rules faithful n
