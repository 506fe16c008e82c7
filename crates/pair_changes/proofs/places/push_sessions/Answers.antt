use Rattle.std.proofs.Common.{◌∙◌, ℕ, List, ap, arith, get_or, length, take}
use Rattle.pair_changes.specs.Places.{session_places}
use Rattle.pair_changes.proofs.PlaceLists.{behind_next, sessions_next}
use Rattle.pair_changes.proofs.places.push_sessions.Goals as goal

pub loop-link-preserved : goal.loop-link-preserved
loop-link-preserved c =
    let net = c.args.net.now in
    let i = c.loop-link.link-index in
    let link = c.link-item.result in
    let same = c.links-link-items.ensures.links in
    behind_next c.args.places.now.items c.loop-link.places.items _ (session_places net (take i net.links)) _ _ c.in_ok-push_if.ensures c.loop-link.invariant
    (sessions_next net net.links i link _ c.session_place-place.result (omega (arith, c.loop-link-test.true, ap length same))
    (c.link-item.is ∙ ap (λ (ls : List (ℕ × ℕ)). get_or ls i link) same) c.is_session.ensures c.session_place-place.ensures)
