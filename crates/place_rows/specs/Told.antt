-- The places whose rows are told.
use Rattle.std.specs.Prelude.{ℕ, Bool, List, filter, Option, Some, None}
use Rattle.net_base.specs.Network.{PlainNet, is_peer, is_router}
use Rattle.pair_rows.specs.declared.values.Met.{Met}

-- a router, or a session to a peer
abbrev pub is_told : PlainNet → ℕ → Option ℕ → Bool
is_told net router None = is_router net router
is_told net router (Some peer) = is_peer net peer

-- what is met at routers and their sessions to peers
abbrev pub told : PlainNet → List Met → List Met
told net mets = filter (λ (met : Met). is_told net met.place.router met.place.peer) mets
