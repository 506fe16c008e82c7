use Rattle.std.proofs.Common.{◌≡◌, ◌++◌, ℕ, List, add-one, ap, arith, flat_map, length, sym, ◌∙◌}
use Rattle.std.proofs.lemmas.List.{flat_map_more}
use Rattle.net_base.specs.Locations.{numbers_below}
use Rattle.multipath_report.specs.Told.{net_in, router_line_in}
use Rattle.multipath_report.proofs.lines.push_routers.Goals as goal

pub loop-place-preserved : goal.loop-place-preserved
loop-place-preserved c =
    let line = router_line_in c.args.told.now in
    let first = c.args.text.now.items in
    let place = c.loop-place.place in
    c.in_ok-push_router.ensures
    ∙ ap (λ n. c.loop-place.text.items ++ line n) c.new.ensures
    ∙ ap (λ (t : List ℕ). t ++ line place) c.loop-place.invariant
    ∙ flat_map_more line first (numbers_below place) place
    ∙ ap (λ ns. first ++ flat_map line ns) (sym (ap numbers_below (add-one place)))

pub returns : goal.returns
returns c =
    let told = c.args.told.now in
    let all : c.loop-place.place ≡ length (net_in told).routers = omega (arith, c.loop-place-test.false, c.loop-place.auto.place-end, ap length c.routers-place-end.ensures.routers) in
    c.loop-place.invariant ∙ ap (λ n. c.args.text.now.items ++ flat_map (router_line_in told) (numbers_below n)) all
