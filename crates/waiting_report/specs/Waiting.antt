-- What waits after events.
use Rattle.std.specs.Prelude.{◌≡◌, ◌↔◌, ℕ, Bool, false, IsTrue, List, [], ◌++◌}
use Rattle.std.specs.List.{flat_map}
use Rattle.net_base.specs.Network.{PlainNet, linked}
use Rattle.net_base.specs.Prefixes.{PlainPrefix}
use Rattle.policy_base.specs.Policies.{PlainPolicy}
use Rattle.config_base.specs.declared.route.Route.{Route}
use Rattle.config_base.specs.Configs.{PlainConfig}
use Rattle.event_base.specs.declared.event.Event.{Event}
use Rattle.event_base.specs.Steps.{IsQuiet}
use Rattle.event_base.specs.World.{World}
use Rattle.event_law.specs.Laws.{world_after}
use Rattle.trace_report.specs.Lines.{quiet_line}
use Rattle.waiting_report.specs.Lines.{link_lines}

-- The text tells each message that waits on a link of the network, link by link and the first message first, and then whether none waits
-- anywhere.
pub record Tells (net : PlainNet) (w : World Route) (text : List ℕ) : Type 0 where
  pub quiet : Bool
  pub rests : IsTrue quiet ↔ IsQuiet w
  pub spelled : text ≡ flat_map (link_lines net w) net.links ++ quiet_line quiet

-- So it tells what waits in the world: elsewhere nothing does.
pub record IsWaiting (net : PlainNet) (w : World Route) (text : List ℕ) : Type 0 where
  pub told : Tells net w text
  pub on_links : (a b : ℕ) → linked net a b ≡ false → w.queue a b ≡ []

-- The text tells what waits after these events, from the opening on.
abbrev pub IsWaitingAfter : PlainNet → PlainPolicy → PlainConfig → PlainPrefix → List Event → List ℕ → Type 0
IsWaitingAfter net policy config p es text = IsWaiting net (world_after net policy config p es) text
