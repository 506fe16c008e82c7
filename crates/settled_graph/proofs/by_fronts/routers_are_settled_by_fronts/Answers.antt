use Rattle.settled_graph.proofs.FrontLaws.{next_by_front, end_of_fronts}
use Rattle.settled_graph.proofs.by_fronts.routers_are_settled_by_fronts.Goals as goal

pub returns-clause-next : goal.returns-clause-next
returns-clause-next c = λ w t k v n o wf names chooses none top first. next_by_front w t wf names k v n chooses none top o first

pub returns-clause-end : goal.returns-clause-end
returns-clause-end c = λ w t k wf rules empty. end_of_fronts w t wf rules k empty
