use Rattle.std.proofs.Common.{◌≡◌}
use Rattle.net_base.specs.Sets.{holds}
use Rattle.path_automata.specs.States.{Extends, states_of}
use Rattle.walk_states.specs.Growth.{gathered, left_in, standings_of}
use Rattle.walk_states.proofs.Starting.{starts_below}
use Rattle.walk_states.proofs.reached.Reached.add_starts.Given as goal

abbrev pub invariant-loop-number : goal.invariant-loop-number
invariant-loop-number l = record {
  added : standings_of l.self ≡ gathered (standings_of l.initial.self) (starts_below (left_in (states_of l.initial.self.automata) 0) (holds l.case.origins) l.number);
  steps : l.self.steps ≡ l.initial.self.steps;
  kept : Extends (states_of l.initial.self.automata) (states_of l.self.automata);
  locations : l.self.found.locations ≡ l.initial.self.found.locations;
}
