-- What peers can't do, whatever they announce.
use Rattle.std.specs.Prelude.{◌≡◌, ℕ, ◌||◌, IsTrue, ◌∷◌, length, None, is_some, option_map}
use Rattle.std.specs.Option.{is_none}
use Rattle.net_base.specs.Network.{PlainNet, is_peer, is_router}
use Rattle.net_base.specs.Prefixes.{PlainPrefix, IsPrefix}
use Rattle.policy_base.specs.Policies.{PlainPolicy}
use Rattle.policy_base.specs.Governing.{originated_at, statement_of}
use Rattle.config_base.specs.Configs.{PlainConfig}
use Rattle.outcome_base.specs.Outcomes.{Failures, offered}
use Rattle.outcome_base.specs.Right.{IsRightOutcome}
use Rattle.outcome_base.specs.Announcements.{Announcements, FullOutcome, Sent, inside, silenced, sent_under, given_under, offered_under, IsStableUnder}

-- Every outcome that is stable under announcements is right, where a session over which nothing of use is announced counts as silent.
abbrev pub IsRightUnder : PlainNet → PlainPolicy → PlainConfig → Type 0
IsRightUnder net policy config =
    (p : PlainPrefix) (f : Failures) (says : Announcements) (full : FullOutcome) → IsPrefix p → length full ≡ length net.routers
    → IsStableUnder net policy config f says p full → IsRightOutcome net policy config (silenced net says f) p (inside full)

-- What that says of offers it says of what peers take: the peer, and then the path within the network that a router sends it.
abbrev pub OffersAreTaken : PlainNet → PlainPolicy → PlainConfig → Type 0
OffersAreTaken net policy config =
    (p : PlainPrefix) (f : Failures) (says : Announcements) (full : FullOutcome) → IsPrefix p → IsStableUnder net policy config f says p full
    → (r peer : ℕ) → offered net policy config (silenced net says f) p (inside full) r peer ≡ option_map (λ (m : Sent). peer ∷ m.path) (offered_under net config f says p full r peer)

-- Whatever fails and the peers announce, there is an outcome that is stable under it.
abbrev pub HasOutcomesUnder : PlainNet → PlainPolicy → PlainConfig → Type 0
HasOutcomesUnder net policy config =
    (p : PlainPrefix) (f : Failures) (says : Announcements) → IsPrefix p → (full : FullOutcome) × (length full ≡ length net.routers) × IsStableUnder net policy config f says p full

-- Whatever the routers hold, none takes from a peer a prefix that an item originates or that no statement governs: no peer draws to itself
-- what belongs to the network.
abbrev pub RefusesOwn : PlainNet → PlainPolicy → PlainConfig → Type 0
RefusesOwn net policy config =
    (p : PlainPrefix) (f : Failures) (says : Announcements) (full : FullOutcome) → IsPrefix p → IsTrue (is_some (originated_at policy.origins p) || is_none (statement_of policy p))
    → (peer r : ℕ) → IsTrue (is_peer net peer) → IsTrue (is_router net r) → given_under net config f says p full peer r ≡ None

-- Whatever the routers hold, none sends a peer a prefix that no item originates: nothing leaks from peer to peer.
abbrev pub LeaksNothing : PlainNet → PlainPolicy → PlainConfig → Type 0
LeaksNothing net policy config =
    (p : PlainPrefix) (f : Failures) (says : Announcements) (full : FullOutcome) → IsPrefix p → originated_at policy.origins p ≡ None
    → (r peer : ℕ) → IsTrue (is_router net r) → IsTrue (is_peer net peer) → sent_under net config f says p full r peer ≡ None

-- The configuration is right whatever the peers announce.
pub record WithstandsPeers (net : PlainNet) (policy : PlainPolicy) (config : PlainConfig) : Type 0 where
  pub right : IsRightUnder net policy config
  pub offers : OffersAreTaken net policy config
  pub outcomes : HasOutcomesUnder net policy config
  pub refused : RefusesOwn net policy config
  pub unleaked : LeaksNothing net policy config
