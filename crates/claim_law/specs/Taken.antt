-- What routers take from peers.
use Rattle.std.specs.Prelude.{◌≡◌, ℕ, IsTrue, [], ◌∷◌, Some}
use Rattle.net_base.specs.Network.{PlainNet, is_peer, is_router}
use Rattle.net_base.specs.Prefixes.{PlainPrefix, IsPrefix}
use Rattle.policy_base.specs.Policies.{PlainPolicy}
use Rattle.config_base.specs.Configs.{PlainConfig}
use Rattle.outcome_base.specs.Outcomes.{Failures}
use Rattle.outcome_base.specs.Announcements.{Announcements, FullOutcome, FullRoute, given_under}
use Rattle.claim_law.specs.Walked.{SomeWalkEnds}

-- Whatever the peers announce and the routers hold, a router takes a prefix from a peer only where some walk that is permitted for this
-- prefix ends with their session. A longer prefix inside it is another one: what is taken for it, its own statement decides.
abbrev pub TakesPermitted : PlainNet → PlainPolicy → PlainConfig → Type 0
TakesPermitted net policy config =
    (p : PlainPrefix) (f : Failures) (says : Announcements) (full : FullOutcome) → IsPrefix p → (peer r : ℕ) → IsTrue (is_peer net peer) → IsTrue (is_router net r)
    → (t : FullRoute) → given_under net config f says p full peer r ≡ Some t → SomeWalkEnds net policy p (r ∷ peer ∷ [])
