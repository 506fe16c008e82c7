use Rattle.std.proofs.Common.{◌≡◌, true, length, ap, ◌∙◌, arith, rules, tests}
use Rattle.std.proofs.lemmas.Bool.{lt-ltb}
use Rattle.net_base.specs.Network.{is_router}
use Rattle.event_base.specs.World.{with_choice}
use Rattle.event_state.specs.States.{speakers}
use Rattle.event_core.proofs.Making.{made_so, makes_nothing, makes_then}
use Rattle.event_core.proofs.Opened.{opened, opened_first, opened_next}
use Rattle.event_core.proofs.changing.Changing.choose_all.Goals as goal

pub loop-number-init : goal.loop-number-init
loop-number-init c = makes_nothing c.args.self.now (c.requires ∙ opened_first (speakers c.args.self.now.world.now))

pub loop-number-preserved : goal.loop-number-preserved
loop-number-preserved c =
    let w = c.args.self.now.world.now in
    let n = c.loop-number.number in
    let long : length c.routers-number-end.result.now ≡ length w.net.now.routers = ap length c.routers-number-end.ensures.routers ∙ ap (λ net. length net.routers) c.net.ensures in
    let up : is_router w.net.now n ≡ true = lt-ltb n (length w.net.now.routers) (omega (arith, long, c.loop-number-test.true)) in
    made_so (makes_then c.loop-number.invariant c.in_ok-choose.ensures)
    (ap (λ k. with_choice (speakers w) k (opened (speakers w) n)) (search (rules, tests)) ∙ opened_next (speakers w) n up)

pub returns : goal.returns
returns c =
    let w = c.args.self.now.world.now in
    let long : length c.routers-number-end.result.now ≡ length w.net.now.routers = ap length c.routers-number-end.ensures.routers ∙ ap (λ net. length net.routers) c.net.ensures in
    let all : c.loop-number.number ≡ length w.net.now.routers = omega (arith, long, c.loop-number-test.false, c.loop-number.auto.number-end) in
    made_so c.loop-number.invariant (ap (opened (speakers w)) all)
