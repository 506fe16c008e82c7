use Rattle.std.proofs.Common.{ap, length}
use Rattle.pair_changes.proofs.PlaceLists.{listed}
use Rattle.pair_changes.proofs.places.places_of.Goals as goal

pub returns : goal.returns
returns c =
    listed c.args.net.now c.args.cases.now _ c.new-places.result.items c.push_routers.new.places.items c.push_sessions.new.places.items c.routers.ensures.rules
    (ap length c.routers.ensures.routers) c.new-places.ensures.items c.in_ok-push_routers.ensures c.in_ok-push_sessions.ensures
