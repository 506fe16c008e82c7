use Rattle.std.proofs.Common.{◌≡◌, ◌++◌, ◌∙◌, ap, arith, refl}
use Rattle.pair_changes.specs.Places.{router_places}
use Rattle.pair_changes.proofs.PlaceLists.{behind_next, routers_next}
use Rattle.pair_changes.proofs.places.push_routers.Goals as goal

pub loop-number-preserved : goal.loop-number-preserved
loop-number-preserved c =
    let net = c.args.net.now in
    let cases = c.args.cases.now in
    let n = c.loop-number.number in
    behind_next c.args.places.now.items c.loop-number.places.items _ (router_places net cases n) _ _ c.in_ok-push_if.ensures c.loop-number.invariant
    (routers_next net cases n c.new-router.result c.is_router_place-is_one.result _ c.new-router.ensures c.is_router_place-is_one.ensures refl)

pub returns : goal.returns
returns c =
    let all : c.loop-number.number ≡ c.args.count = omega arith in
    c.loop-number.invariant ∙ ap (λ n. c.args.places.now.items ++ router_places c.args.net.now c.args.cases.now n) all
