use Rattle.std.proofs.Common.{◌≡◌, ◌≤◌, ◌++◌, length, take}
use Rattle.path_automata.specs.States.{Extends, states_of}
use Rattle.walk_states.specs.Growth.{each_live, gathered, left_in, standings_of, steps_to}
use Rattle.walk_states.proofs.reached.Reached.add_steps.Given as goal

abbrev pub invariant-loop-next : goal.invariant-loop-next
invariant-loop-next l = record {
  added : standings_of l.self ≡ gathered (standings_of l.initial.self) (each_live (left_in (states_of l.initial.self.automata) l.from) (take l.next-index l.ways));
  steps : l.self.steps.items
      ≡ l.initial.self.steps.items ++ steps_to (standings_of l.self) l.number (each_live (left_in (states_of l.initial.self.automata) l.from) (take l.next-index l.ways));
  few : length (standings_of l.self) ≤ 4096;
  kept : Extends (states_of l.initial.self.automata) (states_of l.self.automata);
  locations : l.self.found.locations ≡ l.initial.self.found.locations;
}
