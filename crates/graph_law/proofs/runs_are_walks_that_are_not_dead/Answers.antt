use Rattle.graph_law.proofs.BuiltLaws.{runs_are_alive, runs_lead, runs_have_paths, nodes_are_ended}
use Rattle.graph_law.proofs.runs_are_walks_that_are_not_dead.Goals as goal

pub returns-clause-alive : goal.returns-clause-alive
returns-clause-alive c = λ net plan xs path rules origins are h. runs_are_alive net plan xs are rules origins path h

pub returns-clause-lead : goal.returns-clause-lead
returns-clause-lead c = λ net plan xs l ls n are h. runs_lead net plan xs are l ls n h

pub returns-clause-paths : goal.returns-clause-paths
returns-clause-paths c = λ net plan xs path n are h. runs_have_paths net plan xs are path n h

pub returns-clause-ended : goal.returns-clause-ended
returns-clause-ended c = λ net plan xs n are lt. nodes_are_ended net plan xs are n lt
