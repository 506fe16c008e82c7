-- The claim: what a configuration is that is compiled from a policy, or whose evidence passes. The headline is `KeepsPolicy`. What holds
-- beside it, of the same configurations, is `IsKeptAtWork`.
use Rattle.std.specs.Prelude.{◌≡◌, length}
use Rattle.net_base.specs.Network.{PlainNet}
use Rattle.net_base.specs.Prefixes.{PlainPrefix, IsPrefix}
use Rattle.policy_base.specs.Policies.{PlainPolicy}
use Rattle.config_base.specs.Configs.{PlainConfig}
use Rattle.outcome_base.specs.Outcomes.{Failures, Outcome, IsStable}
use Rattle.outcome_base.specs.Right.{IsRight}
use Rattle.outcome_base.specs.Withstanding.{WithstandsPeers}
use Rattle.outcome_law.specs.Longest.{CarriesPackets}
use Rattle.motion_law.specs.Ever.{IsRightEver}
use Rattle.motion_rest.specs.Rest.{RestsInMotion}
use Rattle.multipath_law.specs.Spread.{SpreadsPackets}
use Rattle.rest_law.specs.Rest.{AlwaysComesToRest}
use Rattle.claim_law.specs.OfNet.{IsOfNet}
use Rattle.claim_law.specs.Taken.{TakesPermitted}

-- whatever fails, there is a stable outcome for every prefix
abbrev pub HasOutcomes : PlainNet → PlainPolicy → PlainConfig → Type 0
HasOutcomes net policy config =
    (p : PlainPrefix) (f : Failures) → IsPrefix p → (outcome : Outcome) × (length outcome ≡ length net.routers) × IsStable net policy config f p outcome

-- The configuration keeps its policy in motion, too.
pub record IsKeptInMotion (net : PlainNet) (policy : PlainPolicy) (config : PlainConfig) : Type 0 where
  -- It is right whatever the peers announce,
  pub peers : WithstandsPeers net policy config
  -- no claimed router can come to hold, and no peer to hear of, what isn't allowed, whatever fails, whatever the peers say, and whenever
  -- and however routers hear, choose and send,
  pub moments : (p : PlainPrefix) → IsPrefix p → IsRightEver net policy config p
  -- and once nothing more fails and no peer changes what it says, the network comes to rest in a stable outcome, however ties are broken.
  pub rests : (p : PlainPrefix) → IsPrefix p → RestsInMotion net policy config p
  -- Where ties go to the lowest identifier, routers choose and send at once, and peers announce themselves alone, it is its one settled
  -- outcome.
  pub settles : AlwaysComesToRest net policy config

-- The headline: the configuration keeps the policy in the network.
pub record KeepsPolicy (net : PlainNet) (policy : PlainPolicy) (config : PlainConfig) : Type 0 where
  -- It is this network's.
  pub of_net : IsOfNet net policy config
  -- It is right: under all failures, in every stable outcome,
  pub right : IsRight net policy config
  -- of which there is one whatever fails.
  pub outcomes : HasOutcomes net policy config

-- And it keeps it at work. What holds of every configuration that is compiled, or whose evidence passes, is both.
pub record IsKeptAtWork (net : PlainNet) (policy : PlainPolicy) (config : PlainConfig) : Type 0 where
  -- Packets arrive, by the longest prefix that covers their address.
  pub packets : CarriesPackets net policy config
  -- Routers may spread them over routes that tie with their own.
  pub spread : SpreadsPackets net policy config
  -- Routers take from peers what permitted walks end with.
  pub taken : TakesPermitted net policy config
  -- It is kept in motion.
  pub motion : IsKeptInMotion net policy config
