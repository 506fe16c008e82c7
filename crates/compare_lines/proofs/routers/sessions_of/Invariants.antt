use Rattle.std.proofs.Common.{◌≡◌, ℕ, take, filter}
use Rattle.std.specs.Prelude.{◌&&◌}
use Rattle.net_base.specs.Network.{is_peer, is_router}
use Rattle.compare_lines.proofs.routers.sessions_of.Given as goal

abbrev pub invariant-loop-link : goal.invariant-loop-link
invariant-loop-link l = l.sessions ≡ filter (λ (link : ℕ × ℕ). is_router l.net link.0 && is_peer l.net link.1) (take l.link-index l.link-items)
