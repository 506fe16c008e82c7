use Rattle.pair_graph.proofs.Ways.{one_count, room_is_passed}
use Rattle.pair_graph.proofs.laws.steps_are_counted_once.Goals as goal

pub returns-clause-one : goal.returns-clause-one
returns-clause-one c = one_count

pub returns-clause-room : goal.returns-clause-room
returns-clause-room c = room_is_passed
