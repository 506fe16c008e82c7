-- The multipath sets of an outcome as they are listed, and the links that carry nothing.
use Rattle.std.specs.Prelude.{◌≡◌, ◌↔◌, ◌⊎◌, ℕ, Bool, false, not, IsTrue, List, ◌∷◌, ◌++◌, length, filter, Some}
use Rattle.list_law.specs.Members.{IsIn}
use Rattle.net_base.specs.Network.{PlainNet, joins}
use Rattle.net_base.specs.Prefixes.{PlainPrefix}
use Rattle.location_names.specs.Neighbours.{is_held}
use Rattle.policy_base.specs.Policies.{PlainPolicy}
use Rattle.config_base.specs.Configs.{PlainConfig}
use Rattle.outcome_base.specs.Outcomes.{Failures, Outcome, is_live, offered}
use Rattle.multipath_law.specs.declared.multipath.Multipath.{Multipath}
use Rattle.multipath_law.specs.Multipath.{IsMember, IsTrail, IsWay, is_up}

-- the links that live, in the network's order
abbrev pub live_links : PlainNet → Failures → List (ℕ × ℕ)
live_links net f = filter (λ (link : ℕ × ℕ). is_live net f link.0 link.1) net.links

-- over the session of a router a peer is offered a path
abbrev pub IsOffered : PlainNet → PlainPolicy → PlainConfig → Failures → PlainPrefix → Outcome → ℕ → ℕ → Type 0
IsOffered net policy config f p outcome r peer = (path : List ℕ) × (offered net policy config f p outcome r peer ≡ Some path)

-- Packets go over the link of a and b: one of them is in the multipath set of the other, or one is a peer that the other offers a path.
abbrev pub IsUsed : PlainNet → PlainPolicy → PlainConfig → Failures → PlainPrefix → Outcome → ℕ → ℕ → Type 0
IsUsed net policy config f p outcome a b =
    (IsMember net policy config f p outcome a b ⊎ IsMember net policy config f p outcome b a)
    ⊎ (IsOffered net policy config f p outcome a b ⊎ IsOffered net policy config f p outcome b a)

-- The sets are the multipath sets of the routers. Of the links that live those are listed over which no packet goes, and all are counted.
pub record IsMultipath (net : PlainNet) (policy : PlainPolicy) (config : PlainConfig) (f : Failures) (p : PlainPrefix) (outcome : Outcome) (m : Multipath) : Type 0 where
  pub sets : (r z : ℕ) → IsTrue (is_held m.sets r z) ↔ IsMember net policy config f p outcome r z
  pub is_used : ℕ × ℕ → Bool
  pub each : (link : ℕ × ℕ) → IsIn (live_links net f) link → IsTrue (is_used link) ↔ IsUsed net policy config f p outcome link.0 link.1
  pub idle : m.idle ≡ filter (λ (link : ℕ × ℕ). not (is_used link)) (live_links net f)
  pub live : m.live ≡ length (live_links net f)

-- ---- in terms of where packets go

-- No packet goes over the link of a and b, in either direction: no trail of packets from a router does, and no peer at an end is offered a path.
pub record CarriesNothing (net : PlainNet) (policy : PlainPolicy) (config : PlainConfig) (f : Failures) (p : PlainPrefix) (outcome : Outcome) (a b : ℕ) : Type 0 where
  pub trails : (front back : List ℕ) (u v : ℕ) → IsTrail (IsMember net policy config f p outcome) (front ++ u ∷ v ∷ back) → joins u v (a, b) ≡ false
  pub offers : (r peer : ℕ) (path : List ℕ) → offered net policy config f p outcome r peer ≡ Some path → joins r peer (a, b) ≡ false

-- Some packet goes over it: a way from a router begins with it, or a peer at an end is offered a path.
abbrev pub Carries : PlainNet → PlainPolicy → PlainConfig → Failures → PlainPrefix → Outcome → ℕ → ℕ → Type 0
Carries net policy config f p outcome a b =
    ((r : ℕ) × (z : ℕ) × (more : List ℕ) × IsTrue (joins r z (a, b)) × IsWay (IsMember net policy config f p outcome) (is_up net policy f p) (r ∷ z ∷ more))
    ⊎ ((r : ℕ) × (peer : ℕ) × IsTrue (joins r peer (a, b)) × IsOffered net policy config f p outcome r peer)
