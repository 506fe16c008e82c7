use Rattle.std.proofs.Common.{◌≡◌, ℕ, take, IsTrue}
use Rattle.std.specs.Prelude.{◌&&◌, ◌==◌}
use Rattle.std.specs.List.{list_any}
use Rattle.net_base.specs.Network.{is_peer, linked}
use Rattle.scenarios.specs.Links.{has_link}
use Rattle.scenarios.proofs.links.LinkSet.of_sessions.Given as goal

abbrev pub invariant-loop-session : goal.invariant-loop-session
invariant-loop-session l = (r p : ℕ) → IsTrue (linked l.net r p) → IsTrue (is_peer l.net p) → has_link l.net l.set r p ≡ list_any (λ s. s.0 == r && s.1 == p) (take l.session-index l.sessions)
