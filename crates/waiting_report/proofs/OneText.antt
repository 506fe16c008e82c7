-- What waits in a world has one text.
use Rattle.std.proofs.Common.{◌≡◌, ℕ, List, ◌++◌, sym, ap, ◌∙◌}
use Rattle.std.specs.Prelude.{Bool}
use Rattle.std.specs.List.{flat_map}
use Rattle.list_law.proofs.Truth.{same_tests}
use Rattle.net_base.specs.Network.{PlainNet}
use Rattle.config_base.specs.declared.route.Route.{Route}
use Rattle.event_base.specs.World.{World}
use Rattle.trace_report.specs.Lines.{quiet_line}
use Rattle.waiting_report.specs.Lines.{link_lines}
use Rattle.waiting_report.specs.Waiting.{IsWaiting}

pub one_waiting_text : (net : PlainNet) (w : World Route) (one other : List ℕ) → IsWaiting net w one → IsWaiting net w other → one ≡ other
one_waiting_text net w one other a b =
    a.told.spelled
    ∙ ap (λ (quiet : Bool). flat_map (link_lines net w) net.links ++ quiet_line quiet)
    (same_tests a.told.quiet b.told.quiet (λ h. b.told.rests.1 (a.told.rests.0 h)) (λ h. a.told.rests.1 (b.told.rests.0 h)))
    ∙ sym b.told.spelled
