use Rattle.std.proofs.Common.{◌≡◌, ◌++◌, take}
use Rattle.compare_lines.specs.Lists.{router_names}
use Rattle.compare_lines.proofs.routers.push_names.Given as goal

abbrev pub invariant-loop-router : goal.invariant-loop-router
invariant-loop-router l = l.text.items ≡ l.initial.text.items ++ router_names l.net (take l.router-index l.routers)
