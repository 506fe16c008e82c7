-- What decides what two policies say of a prefix.
use Rattle.std.specs.Prelude.{ℕ, Bool, not, ◌&&◌, ◌||◌, nat_lt, length, is_some, Option, Some, None}
use Rattle.net_base.specs.Network.{PlainNet, is_peer, is_router, linked}
use Rattle.net_base.specs.Prefixes.{PlainPrefix}
use Rattle.policy_base.specs.Policies.{PlainPolicy}
use Rattle.policy_base.specs.Governing.{governing, originated_at, is_origin_by}
use Rattle.compare_base.specs.declared.cases.PrefixCase.{PrefixCase}
use Rattle.compare_base.specs.declared.cases.CasePair.{CasePair}

-- the number of the statement that governs the prefix, and its routers where it's originated
abbrev pub case_for : PlainPolicy → PlainPrefix → PrefixCase
case_for policy p = record { statement = governing policy p; origins = originated_at policy.origins p }

abbrev pub pair_for : PlainPolicy → PlainPolicy → PlainPrefix → CasePair
pair_for old new p = record { old = case_for old p; new = case_for new p }

-- an item of one of the two policies originates the prefix
abbrev pub is_originated : CasePair → Bool
is_originated pair = is_some pair.old.origins || is_some pair.new.origins

-- some statement governs the prefix in one of the two
abbrev pub is_governed : CasePair → Bool
is_governed pair = is_some pair.old.statement || is_some pair.new.statement

-- Something is said of a prefix with these cases: it's originated, or a statement governs it and the network has a peer where it may come from.
abbrev pub says_something : PlainNet → CasePair → Bool
says_something net pair = is_originated pair || (is_governed pair && nat_lt 0 (length net.peers))

-- A place at which something may differ: a router that is an origin in neither policy, or, unless the origins are all peers in both, a
-- session of a router to a peer.
abbrev pub is_place : PlainNet → CasePair → ℕ → Option ℕ → Bool
is_place net pair r None = is_router net r && not (is_origin_by net pair.old.origins r) && not (is_origin_by net pair.new.origins r)
is_place net pair r (Some peer) = is_originated pair && is_router net r && is_peer net peer && linked net r peer
