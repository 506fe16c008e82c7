use Rattle.std.proofs.Common.{◌≡◌, ◌++◌, take}
use Rattle.std.specs.List.{flat_map, AllByRecursion}
use Rattle.config_base.specs.declared.config.Session.{Session}
use Rattle.config_text.specs.Spelled.{IsNamed}
use Rattle.route_map_text.specs.MapsLines.{fed, lines_of_session}
use Rattle.route_map_text.proofs.blocks.push_sessions.Given as goal

abbrev pub invariant-loop-session : goal.invariant-loop-session
invariant-loop-session l = record {
  text : l.text.items ≡ l.initial.text.items ++ flat_map (λ (x : Session). flat_map fed (lines_of_session x)) (take l.session-index l.sessions);
  rules : AllByRecursion IsNamed (take l.session-index l.sessions);
}
