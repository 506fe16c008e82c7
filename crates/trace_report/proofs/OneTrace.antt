-- A world has one trace.
use Rattle.std.proofs.Common.{◌≡◌, ℕ, List, ◌++◌, sym, ap₂, ◌∙◌}
use Rattle.std.specs.Prelude.{Bool}
use Rattle.std.specs.List.{flat_map}
use Rattle.list_law.proofs.Truth.{same_tests}
use Rattle.net_base.specs.Network.{PlainNet}
use Rattle.net_base.specs.Prefixes.{PlainPrefix}
use Rattle.policy_base.specs.Policies.{PlainPolicy}
use Rattle.config_base.specs.declared.route.Route.{Route}
use Rattle.config_base.specs.Configs.{PlainConfig}
use Rattle.event_base.specs.World.{World}
use Rattle.outcome_report.proofs.Texts.{one_report}
use Rattle.trace_report.specs.declared.refused.Refused.{Refused}
use Rattle.trace_report.specs.Lines.{quiet_line, refused_line}
use Rattle.trace_report.specs.Trace.{IsTrace, shown_by}

pub one_trace : (net : PlainNet) (policy : PlainPolicy) (config : PlainConfig) (p : PlainPrefix) (refused : List Refused) (w : World Route) (a b : List ℕ)
    → IsTrace net policy config p refused w a → IsTrace net policy config p refused w b → a ≡ b
one_trace net policy config p refused w a b x y =
    x.spelled
    ∙ ap₂ (λ (quiet : Bool) (report : List ℕ). flat_map refused_line refused ++ quiet_line quiet ++ report)
    (same_tests x.quiet y.quiet (λ h. y.rests.1 (x.rests.0 h)) (λ h. x.rests.1 (y.rests.0 h)))
    (one_report net policy p (shown_by w) config x.report y.report x.shown y.shown)
    ∙ sym y.spelled
