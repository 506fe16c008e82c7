use Rattle.std.proofs.Common.{ap, ◌∙◌}
use Rattle.path_automata.specs.States.{states_of}
use Rattle.walk_states.specs.Growth.{standings_in}
use Rattle.walk_states.proofs.Numbering.{standings_in-nil}
use Rattle.walk_states.proofs.reached.Reached.new.Goals as goal

pub returns-clause-none : goal.returns-clause-none
returns-clause-none c = ap (standings_in (states_of c.args.automata)) c.new.ensures.none ∙ standings_in-nil (states_of c.args.automata)
