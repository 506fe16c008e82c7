use Rattle.std.proofs.Common.{sym, ap, ◌∙◌}
use Rattle.event_law.proofs.Messages.{same_as_itself}
use Rattle.event_state.specs.States.{speakers, state}
use Rattle.event_core.specs.Deeds.{to_link}
use Rattle.event_core.proofs.Making.{makes_so, makes_then}
use Rattle.event_core.proofs.Tellings.{emptied_both, told_both}
use Rattle.event_core.proofs.changing.Changing.to_link.Goals as goal

pub returns-in_ok-tell-in-TellBoth : goal.returns-in_ok-tell-in-TellBoth
returns-in_ok-tell-in-TellBoth c =
    let S = speakers c.args.self.now.world.now in
    let w = state c.args.self.now.world.now in
    makes_so (makes_then c.in_ok-tell-in-TellBoth.ensures c.tell-in-TellBoth-2.ensures)
    (told_both S same_as_itself c.args.a c.args.b w ∙ ap (λ d. to_link d c.args.a c.args.b S w) (sym c.in-TellBoth.is))

pub returns-in_ok-forget-in-Forget : goal.returns-in_ok-forget-in-Forget
returns-in_ok-forget-in-Forget c =
    let S = speakers c.args.self.now.world.now in
    let w = state c.args.self.now.world.now in
    makes_so (makes_then c.in_ok-forget-in-Forget.ensures c.forget-in-Forget.ensures)
    (emptied_both S c.args.a c.args.b w ∙ ap (λ d. to_link d c.args.a c.args.b S w) (sym c.in-Forget.is))
