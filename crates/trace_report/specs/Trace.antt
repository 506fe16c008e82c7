-- The trace of events.
use Rattle.std.specs.Prelude.{◌≡◌, ◌↔◌, ℕ, Bool, IsTrue, List, ◌∷◌, ◌++◌, option_map}
use Rattle.std.specs.List.{flat_map}
use Rattle.net_base.specs.Network.{PlainNet}
use Rattle.net_base.specs.Prefixes.{PlainPrefix}
use Rattle.policy_base.specs.Policies.{PlainPolicy}
use Rattle.config_base.specs.declared.route.Route.{Route}
use Rattle.config_base.specs.Configs.{PlainConfig}
use Rattle.event_base.specs.declared.event.Event.{Event}
use Rattle.event_base.specs.Speaking.{speakers_of}
use Rattle.event_base.specs.Steps.{IsQuiet, opening, run}
use Rattle.event_base.specs.World.{World}
use Rattle.outcome_report.specs.Lines.{Shown}
use Rattle.outcome_report.specs.Report.{IsReport}
use Rattle.trace_report.specs.declared.refused.Refused.{Refused}
use Rattle.trace_report.specs.Lines.{quiet_line, refused_line}
use Rattle.trace_report.specs.Refusals.{refused_from}

-- what a world shows: who is down, what each router holds, and what each peer last heard, with the peer in front
abbrev pub shown_by : World Route → Shown
shown_by w = record {
  dead = w.down;
  path = λ r. option_map (λ (h : Route). h.path) (w.route r);
  offer = λ r peer. option_map (λ (m : Route). peer ∷ m.path) (w.heard r peer);
}

-- The text tells the refused events, whether no message waits in the world, and then what the world shows.
pub record IsTrace (net : PlainNet) (policy : PlainPolicy) (config : PlainConfig) (p : PlainPrefix) (refused : List Refused) (w : World Route) (text : List ℕ) : Type 0 where
  pub quiet : Bool
  pub rests : IsTrue quiet ↔ IsQuiet w
  pub report : List ℕ
  pub shown : IsReport net policy config p (shown_by w) report
  pub spelled : text ≡ flat_map refused_line refused ++ quiet_line quiet ++ report

-- The text is the trace of these events from the opening on.
abbrev pub IsTraceOf : PlainNet → PlainPolicy → PlainConfig → PlainPrefix → List Event → List ℕ → Type 0
IsTraceOf net policy config p es text =
    IsTrace net policy config p (refused_from (speakers_of net policy config p) 1 es (opening (speakers_of net policy config p)))
    (run (speakers_of net policy config p) es (opening (speakers_of net policy config p))) text
