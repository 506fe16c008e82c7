use Rattle.std.proofs.Common.{◌≡◌, ◌++◌, take}
use Rattle.std.specs.List.{flat_map}
use Rattle.compare_lines.specs.Lists.{next_session}
use Rattle.compare_lines.proofs.routers.push_more.Given as goal

abbrev pub invariant-loop-session : goal.invariant-loop-session
invariant-loop-session l = l.text.items ≡ l.initial.text.items ++ flat_map (next_session l.net) (take l.session-index l.sessions)
