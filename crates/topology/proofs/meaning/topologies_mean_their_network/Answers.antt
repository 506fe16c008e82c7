use Rattle.std.proofs.Common.{sym, ◌∙◌}
use Rattle.net_base.proofs.StepLemmas.{ok_same}
use Rattle.topology.proofs.Read.{networks_are_meant}
use Rattle.topology.proofs.Written.{network_is_spelled}
use Rattle.topology.proofs.meaning.topologies_mean_their_network.Goals as goal

pub returns-clause-only : goal.returns-clause-only
returns-clause-only c = networks_are_meant

pub returns-clause-all : goal.returns-clause-all
returns-clause-all c = network_is_spelled

pub returns-clause-one : goal.returns-clause-one
returns-clause-one c bytes net other m n = ok_same net other (sym (network_is_spelled bytes net m) ∙ network_is_spelled bytes other n)
