use Rattle.std.proofs.Common.{sym, ◌∙◌}
use Rattle.path_automata.specs.States.{states_of}
use Rattle.walk_states.proofs.Numbering.{length-standings_in}
use Rattle.walk_states.proofs.reached.Reached.len.Goals as goal

pub returns : goal.returns
returns c = c.len.ensures ∙ sym (length-standings_in (states_of c.args.self.now.automata) c.args.self.now.found.keys.items)
