use Rattle.std.proofs.Common.{◌≡◌, ◌++◌}
use Rattle.net_base.specs.Sets.{holds}
use Rattle.impact_report.specs.Sources.{router_sources}
use Rattle.impact_report.proofs.sources.push_routers.Given as goal

abbrev pub invariant-loop-place : goal.invariant-loop-place
invariant-loop-place l = l.sources.items ≡ l.initial.sources.items ++ router_sources (holds l.routers) l.place
