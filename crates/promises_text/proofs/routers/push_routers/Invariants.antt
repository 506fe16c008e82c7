use Rattle.std.proofs.Common.{◌≡◌, ◌++◌}
use Rattle.std.specs.List.{flat_map}
use Rattle.net_base.specs.Locations.{numbers_below}
use Rattle.promises_text.specs.Texts.{wanted_router}
use Rattle.promises_text.proofs.routers.push_routers.Given as goal

abbrev pub invariant-loop-place : goal.invariant-loop-place
invariant-loop-place l = l.text.items ≡ l.initial.text.items ++ flat_map (wanted_router l.net l.standings l.wanted) (numbers_below l.place)
