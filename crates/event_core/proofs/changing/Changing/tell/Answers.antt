use Rattle.std.proofs.Common.{[], ◌∷◌, ◌++◌, sym, ap, ◌∙◌}
use Rattle.event_base.specs.World.{exported}
use Rattle.event_state.specs.Changes.{with_queue, with_queued}
use Rattle.event_state.specs.States.{speakers, state}
use Rattle.event_core.proofs.Making.{makes_nothing, makes_so, makes_then}
use Rattle.event_core.proofs.Tellings.{told_none, told_one}
use Rattle.event_core.proofs.changing.Changing.tell.Goals as goal

pub returns-then-not-owes : goal.returns-then-not-owes
returns-then-not-owes c =
    let kept = c.args.self.now.world.now in
    makes_nothing c.args.self.now (told_none (speakers kept) c.args.from c.args.to (state kept) (sym c.owes.ensures ∙ c.if-not-owes.true))

pub returns : goal.returns
returns c =
    let w = state c.args.self.now.world.now in
    let S = speakers c.args.self.now.world.now in
    let a = c.args.from in
    let b = c.args.to in
    makes_so (makes_then c.in_ok-make.ensures c.post.ensures)
    (ap (λ m. with_queue a b (w.queue a b ++ m ∷ []) (with_queued a b c.in_ok-noted.noted w)) c.in_ok-message.ensures
    ∙ ap (λ m. with_queue a b (w.queue a b ++ exported S w a b ∷ []) (with_queued a b m w)) c.in_ok-noted.ensures
    ∙ told_one S a b w (sym c.owes.ensures ∙ c.if-not-owes.false))
