use Rattle.std.proofs.Common.{◌≡◌, ◌++◌}
use Rattle.cut_ranks.specs.Lives.{router_cuts}
use Rattle.cut_ranks.proofs.cuts.push_routers.Given as goal

abbrev pub invariant-loop-place : goal.invariant-loop-place
invariant-loop-place l = l.cuts.items ≡ l.initial.cuts.items ++ router_cuts l.survivors l.place
