use Rattle.std.proofs.Common.{◌≡◌, ◌+◌, ◌∙◌, ap, arith, length, map, subst, sym}
use Rattle.std.specs.Prelude.{filter}
use Rattle.net_base.specs.Locations.{numbers_below}
use Rattle.net_base.specs.Network.{linked}
use Rattle.config_maker.specs.Hops.{IsReached, AreReached}
use Rattle.config_maker.specs.Writing.{session_of}
use Rattle.config_maker.proofs.InOrder.{sessions_next, sessions_same}
use Rattle.config_maker.proofs.Reached.{all_set, reached_later}
use Rattle.config_maker.proofs.blocks.sessions_of.Goals as goal
use Rattle.config_maker.proofs.blocks.sessions_of.Goals.{then-holds+in_ok-session_of+in_ok-push, else-holds}

pub returns-in_err-push-clause-reached : goal.returns-in_err-push-clause-reached
returns-in_err-push-clause-reached c =
    all_set c.args.hops.now c.loop-number.places c.loop-number.number c.next_hops-taken.new.place c.args.at c.loop-number.invariant.arrived
    (subst (λ n. IsReached c.args.hops.now c.next_hops-taken.new.place n c.args.at) c.new-neighbour.ensures c.next_hops-taken.ensures.reached)

pub loop-number-preserved : goal.loop-number-preserved
loop-number-preserved c =
    let hops = c.args.hops.now in
    let at = c.args.at in
    let number = c.loop-number.number in
    let is_near : c.holds.result ≡ linked c.args.net.now at number = c.holds.ensures ∙ c.requires.near c.new-neighbour.result ∙ ap (linked c.args.net.now at) c.new-neighbour.ensures in
    elim c.if-holds.branch [
      | then-holds+in_ok-session_of+in_ok-push w ↦ record {
        sessions =
            w.sessions-is ∙ w.in_ok-push.ensures.ok
            ∙ sessions_next c.args.net.now hops at number c.loop-number.sessions c.loop-number.invariant.sessions (sym is_near ∙ w.if-holds.true)
            w.next_hops-taken.result.now w.next_hops-sent.result.now c.new-neighbour.result
            w.in_ok-session_of.field-0 c.new-neighbour.ensures w.next_hops-taken.ensures.hops w.next_hops-sent.ensures.hops w.in_ok-session_of.ensures;
        places = c.if-holds.auto.places ∙ c.loop-number.invariant.places;
        arrived =
            subst (λ ps. AreReached hops ps at) (sym w.places-is)
            (all_set hops c.loop-number.places number w.next_hops-taken.new.place at c.loop-number.invariant.arrived
            (subst (λ n. IsReached hops w.next_hops-taken.new.place n at) c.new-neighbour.ensures w.next_hops-taken.ensures.reached));
        departed =
            subst (λ p. IsReached hops p at (number + 1)) (sym w.departure-is)
            (reached_later hops w.next_hops-sent.new.place at number (number + 1) (omega arith)
            (subst (λ n. IsReached hops w.next_hops-sent.new.place at n) c.new-neighbour.ensures w.next_hops-sent.ensures.reached));
      }
      | else-holds w ↦ record {
        sessions = w.sessions-is ∙ sessions_same c.args.net.now hops at number c.loop-number.sessions c.loop-number.invariant.sessions (sym is_near ∙ w.if-holds.false);
        places = c.if-holds.auto.places ∙ c.loop-number.invariant.places;
        arrived = subst (λ ps. AreReached hops ps at) (sym w.places-is) c.loop-number.invariant.arrived;
        departed =
            subst (λ p. IsReached hops p at (number + 1)) (sym w.departure-is)
            (reached_later hops c.loop-number.departure at number (number + 1) (omega arith) c.loop-number.invariant.departed);
      }
    ]

pub returns-clause-sessions : goal.returns-clause-sessions
returns-clause-sessions c =
    let net = c.args.net.now in
    let all : c.loop-number.number ≡ length net.routers + length net.peers =
    omega (arith, c.loop-number-test.false, c.loop-number.auto.number-end, ap length c.routers.ensures.routers, ap length c.peers.ensures.peers) in
    c.loop-number.invariant.sessions ∙ ap (λ n. map (session_of net c.args.hops.now c.args.at) (filter (linked net c.args.at) (numbers_below n))) all
