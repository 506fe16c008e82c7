use Rattle.std.proofs.Common.{◌≡◌, ◌+◌, ◌<◌, length, ap, ◌∙◌, arith, rules, tests}
use Rattle.std.specs.Prelude.{nat_lt}
use Rattle.std.proofs.lemmas.Bool.{lt-ltb, ltb-true}
use Rattle.event_base.specs.World.{at, tell}
use Rattle.event_law.proofs.Messages.{same_as_itself}
use Rattle.event_state.specs.States.{speakers, state}
use Rattle.event_core.proofs.Making.{made_so, makes_then}
use Rattle.event_core.proofs.Opened.{told_below_next, told_everywhere}
use Rattle.event_core.proofs.changing.Changing.tell_all.Goals as goal

pub loop-number-preserved : goal.loop-number-preserved
loop-number-preserved c =
    let w = c.args.self.now.world.now in
    let n = c.loop-number.number in
    made_so (makes_then c.loop-number.invariant c.in_ok-to_links.ensures)
    (ap (λ k. tell (speakers w) (λ a b. at k a) (tell (speakers w) (λ a b. nat_lt a n) (state w))) (search (rules, tests))
    ∙ told_below_next (speakers w) same_as_itself n (state w))

pub returns : goal.returns
returns c =
    let w = c.args.self.now.world.now in
    let n = c.loop-number.number in
    let routers : length c.routers.result.now ≡ length w.net.now.routers = ap length c.routers.ensures.routers ∙ ap (λ net. length net.routers) c.net.ensures in
    let peers : length c.peers.result.now ≡ length w.net.now.peers = ap length c.peers.ensures.peers ∙ ap (λ net. length net.peers) c.net-2.ensures in
    made_so c.loop-number.invariant
    (told_everywhere w c.known_net.ensures n (λ a h. let below : a < length w.net.now.routers + length w.net.now.peers =
    ltb-true a (length w.net.now.routers + length w.net.now.peers) h in
    lt-ltb a n (omega (arith, routers, peers, below, c.loop-number-test.false))) (state w))
