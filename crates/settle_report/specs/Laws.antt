-- The laws of settlements.
use Rattle.std.specs.Prelude.{◌≡◌, ℕ, List}
use Rattle.net_base.specs.Network.{PlainNet, IsNet}
use Rattle.net_base.specs.Prefixes.{PlainPrefix}
use Rattle.policy_base.specs.Policies.{PlainPolicy}
use Rattle.config_base.specs.Configs.{PlainConfig}
use Rattle.event_base.specs.declared.event.Event.{Event}
use Rattle.settle_report.specs.Settlement.{IsSettlementOf}

-- One text tells of the settlement of some events.
abbrev pub SettlementsAreOne : Type 0
SettlementsAreOne = (net : PlainNet) (policy : PlainPolicy) (config : PlainConfig) (p : PlainPrefix) (es : List Event) → IsNet net
    → (one other : List ℕ) → IsSettlementOf net policy config p es one → IsSettlementOf net policy config p es other → one ≡ other
