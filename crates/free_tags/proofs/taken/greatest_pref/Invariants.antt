use Rattle.std.proofs.Common.{◌≡◌, max, take}
use Rattle.std.specs.List.{flat_map, fold}
use Rattle.free_tags.specs.Taken.{prefs_of_router}
use Rattle.free_tags.proofs.taken.greatest_pref.Given as goal

abbrev pub invariant-loop-router : goal.invariant-loop-router
invariant-loop-router l = l.most ≡ fold max 0 (flat_map prefs_of_router (take l.router-index l.router-items))
