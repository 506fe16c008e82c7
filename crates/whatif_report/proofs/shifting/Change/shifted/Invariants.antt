use Rattle.std.proofs.Common.{◌≡◌, ℕ, false, take}
use Rattle.std.specs.List.{list_any}
use Rattle.std.specs.Option.{option_map_or}
use Rattle.net_base.specs.Sets.{holds}
use Rattle.scenarios.specs.Tests.{far_end}
use Rattle.whatif_report.specs.Changing.{shifts_in}
use Rattle.whatif_report.proofs.shifting.Change.shifted.Given as goal

abbrev pub invariant-loop-link : goal.invariant-loop-link
invariant-loop-link l = (r : ℕ) → holds l.marks r ≡ list_any (λ link. option_map_or (λ z. shifts_in l.self z r) (far_end r link) false) (take l.link-index l.links)
