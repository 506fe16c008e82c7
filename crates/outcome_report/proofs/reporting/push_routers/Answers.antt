use Rattle.std.proofs.Common.{◌≡◌, ◌++◌, ℕ, List, add-one, ap, arith, flat_map, length, sym, ◌∙◌}
use Rattle.std.proofs.lemmas.List.{flat_map_more}
use Rattle.net_base.specs.Locations.{numbers_below}
use Rattle.policy_base.specs.Policies.{policy_of}
use Rattle.outcome_claims.specs.Claims.{sources_of, statement_in}
use Rattle.outcome_report.specs.Lines.{router_line}
use Rattle.outcome_report.proofs.reporting.push_routers.Goals as goal

pub loop-place-preserved : goal.loop-place-preserved
loop-place-preserved g c =
    let subject = c.args.subject.now in
    let line = router_line subject.net.now (policy_of subject.policy.now) subject.prefix (statement_in subject.claims) (sources_of subject.claims) (g.S.Scene.shown c.args.scene.now) in
    let first = c.args.text.now.items in
    let place = c.loop-place.place in
    c.in_ok-push_router.ensures
    ∙ ap (λ n. c.loop-place.text.items ++ line n) c.new.ensures
    ∙ ap (λ (t : List ℕ). t ++ line place) c.loop-place.invariant
    ∙ flat_map_more line first (numbers_below place) place
    ∙ ap (λ ns. first ++ flat_map line ns) (sym (ap numbers_below (add-one place)))

pub returns : goal.returns
returns g c =
    let subject = c.args.subject.now in
    let line = router_line subject.net.now (policy_of subject.policy.now) subject.prefix (statement_in subject.claims) (sources_of subject.claims) (g.S.Scene.shown c.args.scene.now) in
    let all : c.loop-place.place ≡ length subject.net.now.routers = omega (arith, c.loop-place-test.false, c.loop-place.auto.place-end, ap length c.routers-place-end.ensures.routers) in
    c.loop-place.invariant ∙ ap (λ n. c.args.text.now.items ++ flat_map line (numbers_below n)) all
