use Rattle.std.proofs.Common.{◌≡◌, ◌++◌, take}
use Rattle.pair_changes.specs.Places.{session_places}
use Rattle.pair_changes.proofs.places.push_sessions.Given as goal

abbrev pub invariant-loop-link : goal.invariant-loop-link
invariant-loop-link l = l.places.items ≡ l.initial.places.items ++ session_places l.net (take l.link-index l.net.links)
