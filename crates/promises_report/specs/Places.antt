-- The sessions of a network, in order.
use Rattle.std.specs.Prelude.{ℕ, ◌&&◌, List, filter}
use Rattle.net_base.specs.Network.{PlainNet, is_peer, is_router}

-- the sessions of routers to peers, by router and peer
abbrev pub sessions_of : PlainNet → List (ℕ × ℕ)
sessions_of net = filter (λ (link : ℕ × ℕ). is_router net link.0 && is_peer net link.1) net.links
