use Rattle.std.proofs.Common.{◌≡◌, ◌++◌, take}
use Rattle.std.specs.List.{flat_map}
use Rattle.free_tags.specs.Taken.{tags_of_router}
use Rattle.free_tags.proofs.taken.add_routers.Given as goal

abbrev pub invariant-loop-router : goal.invariant-loop-router
invariant-loop-router l = l.tags.items ≡ l.initial.tags.items ++ flat_map tags_of_router (take l.router-index l.routers)
