use Rattle.std.proofs.Common.{sym, ◌∙◌}
use Rattle.std.proofs.lemmas.Bool.{cond-true, cond-false}
use Rattle.event_base.specs.World.{at, running, tell, with_choice}
use Rattle.event_state.specs.States.{speakers, state}
use Rattle.event_core.proofs.Making.{makes_nothing, makes_so, makes_then}
use Rattle.event_core.proofs.changing.Changing.choose_again.Goals as goal

pub returns : goal.returns
returns c =
    let S = speakers c.args.self.now.world.now in
    let w = state c.args.self.now.world.now in
    let r = c.args.at in
    makes_so (makes_then c.in_ok-choose.ensures c.to_links.ensures)
    (sym (cond-true (running S w r) (tell S (λ a b. at r a) (with_choice S r w)) w (sym c.is_running.ensures ∙ c.if-not-is_running.false)))

pub returns-then-not-is_running : goal.returns-then-not-is_running
returns-then-not-is_running c =
    let S = speakers c.args.self.now.world.now in
    let w = state c.args.self.now.world.now in
    let r = c.args.at in
    makes_nothing c.args.self.now
    (sym (cond-false (running S w r) (tell S (λ a b. at r a) (with_choice S r w)) w (sym c.is_running.ensures ∙ c.if-not-is_running.true)))
