-- Where each router chooses and sends at once, and each peer announces the path of itself, all stays within what may be held, too.
use Rattle.std.specs.Prelude.{IsTrue, List, []}
use Rattle.net_base.specs.Network.{PlainNet, IsNet, is_router}
use Rattle.net_base.specs.Prefixes.{PlainPrefix}
use Rattle.policy_base.specs.Policies.{PlainPolicy, IsPolicyOf}
use Rattle.config_base.specs.declared.route.Route.{Route}
use Rattle.config_base.specs.Configs.{PlainConfig}
use Rattle.outcome_base.specs.Announcements.{FullRoute, Sent}
use Rattle.event_base.specs.declared.event.Event.{Event}
use Rattle.event_law.specs.Kinds.{AreKinds}
use Rattle.event_law.specs.Laws.{world_after}
use Rattle.motion_law.specs.Ever.{MayHold, MaySend}

-- nothing stands behind
abbrev pub held_alone : Route → FullRoute
held_alone h = record { route = h; behind = [] }

abbrev pub sent_alone : Route → Sent
sent_alone m = record { path = m.path; behind = []; tag = m.tag }

-- After whatever events each route that is held may be held, and each that a router has sent may be sent, whatever the configuration is.
abbrev pub EventsStayWithin : Type 0
EventsStayWithin = (net : PlainNet) (policy : PlainPolicy) (config : PlainConfig) (p : PlainPrefix) (es : List Event) → IsNet net → IsPolicyOf net policy
    → AreKinds (λ r h. MayHold net policy config p r (held_alone h)) (λ a b m. IsTrue (is_router net a) → MaySend net policy config p a b (sent_alone m)) (world_after net policy config p es)
