use Rattle.std.proofs.Common.{ℕ, sym, ap, ◌∙◌, take}
use Rattle.std.specs.Prelude.{◌||◌, ◌&&◌, ◌==◌}
use Rattle.std.specs.List.{list_any}
use Rattle.list_law.proofs.Truth.{or_failed}
use Rattle.net_base.specs.Network.{joins}
use Rattle.scenarios.specs.declared.links.LinkSet.{LinkSet}
use Rattle.scenarios.specs.Links.{has_link}
use Rattle.scenarios.proofs.LinkMarks.{any_next, joined_session, other_session}
use Rattle.scenarios.proofs.links.LinkSet.of_sessions.Goals.{then-is_peer, else-is_peer}
use Rattle.scenarios.proofs.links.LinkSet.of_sessions.Goals as goal

pub loop-session-preserved : goal.loop-session-preserved
loop-session-preserved c = λ r p on peer.
    let net = c.args.net.now in
    let s = c.session-item.result in
    let test = λ (s : ℕ × ℕ). s.0 == r && s.1 == p in
    let more = any_next test c.args.sessions.now c.loop-session.session-index s c.loop-session-test.true c.session-item.is in
    let before = c.loop-session.invariant r p on peer in
    elim c.if-is_peer.branch [
      | then-is_peer w ↦
          ap (λ (set : LinkSet). has_link net set r p) w.set-is
          ∙ w.put.ensures r p on
          ∙ ap (λ o. o || joins r p s) before
          ∙ ap (λ o. list_any test (take c.loop-session.session-index c.args.sessions.now) || o) (joined_session net c.known_net.ensures r p on peer s (sym c.is_peer.ensures ∙ w.if-is_peer.true))
          ∙ sym more
      | else-is_peer w ↦
          ap (λ (set : LinkSet). has_link net set r p) w.set-is
          ∙ before
          ∙ sym (more ∙ or_failed _ (test s) (other_session net c.known_net.ensures r p on peer s (sym c.is_peer.ensures ∙ w.if-is_peer.false)))
    ]
