use Rattle.std.proofs.Common.{◌≤◌, ◌-◌, length}
use Rattle.path_automata.specs.States.{Extends, states_of}
use Rattle.walk_states.specs.Growth.{AreAsked, IsOver, next_in, standings_of}
use Rattle.walk_states.proofs.reached.Reached.walk.Given as goal

abbrev pub invariant-loop-number : goal.invariant-loop-number
invariant-loop-number l = record {
  asked : AreAsked (standings_of l.initial.self) (next_in l.net l.case) (standings_of l.self) l.self.steps.items l.number;
  few : length (standings_of l.self) ≤ 4096;
  within : l.number ≤ length (standings_of l.self);
  kept : Extends (states_of l.initial.self.automata) (states_of l.self.automata);
  over : IsOver l.net l.self;
}

abbrev pub decreases-loop-number : goal.decreases-loop-number
decreases-loop-number l = 4096 - l.number
