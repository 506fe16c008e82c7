use Rattle.std.proofs.Common.{◌≡◌, ◌++◌}
use Rattle.std.specs.List.{flat_map}
use Rattle.net_base.specs.Locations.{numbers_below}
use Rattle.promises_text.specs.Texts.{wanted_session}
use Rattle.promises_text.proofs.sessions.push_sessions.Given as goal

abbrev pub invariant-loop-place : goal.invariant-loop-place
invariant-loop-place l = l.text.items ≡ l.initial.text.items ++ flat_map (wanted_session l.net l.sessions l.standings l.wanted) (numbers_below l.place)
